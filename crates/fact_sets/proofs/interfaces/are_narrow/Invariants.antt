use Rattle.std.proofs.Common.{ℕ, ◌<◌, ◌^◌}
use Rattle.fact_sets.specs.Facts.{interface_at}
use Rattle.fact_sets.proofs.interfaces.are_narrow.Given as goal

abbrev pub invariant-loop-interface : goal.invariant-loop-interface
invariant-loop-interface l =
    (n : ℕ) → n < l.interface-index → ((interface_at l.interfaces n).name < 2 ^ 128) × ((interface_at l.interfaces n).index < 2 ^ 32)
