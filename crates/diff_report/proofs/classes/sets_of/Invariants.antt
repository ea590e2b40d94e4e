use Rattle.std.proofs.Common.{All}
use Rattle.packet_sets.specs.Sets.{DiagramsView, IsSet}
use Rattle.diff_report.proofs.classes.sets_of.Given as goal

abbrev pub invariant-loop-difference : goal.invariant-loop-difference
invariant-loop-difference l = (d : DiagramsView) → All (λ x. IsSet d x.set) l.differences → All (IsSet d) l.sets.items
