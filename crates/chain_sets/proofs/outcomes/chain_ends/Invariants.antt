use Rattle.std.proofs.Common.{◌≡◌, take}
use Rattle.chain_sets.proofs.Exits.{ends_in}
use Rattle.chain_sets.proofs.outcomes.chain_ends.Given as goal

abbrev pub invariant-loop-exit : goal.invariant-loop-exit
invariant-loop-exit l = l.ends.items ≡ ends_in (take l.exit-index l.exits)
