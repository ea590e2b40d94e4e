use Rattle.std.proofs.Common.{All}
use Rattle.packet_sets.specs.Sets.{DiagramsView, IsSet}
use Rattle.reach_report.proofs.sets_below.end_sets.Given as goal

abbrev pub invariant-loop-end : goal.invariant-loop-end
invariant-loop-end l = (d : DiagramsView) → All (λ e. IsSet d e.set) l.ends → All (IsSet d) l.sets.items
