use Rattle.std.proofs.Common.{◌≡◌, ◌*◌, ◌^◌, ◌<◌}
use Rattle.nft_values.proofs.NameLaws.{padded_to}
use Rattle.nft_values.proofs.names.padded.Given as goal

abbrev pub invariant-loop-at : goal.invariant-loop-at
invariant-loop-at l = record { value : l.number ≡ padded_to l.at l.fill l.name; room : l.number < 2 ^ (8 * l.at) }
