use Rattle.packet_sets.specs.steps.Walking.{IsAlong}
use Rattle.packet_sets.proofs.diagrams.Diagrams.example.Given as goal

abbrev pub invariant-loop-at : goal.invariant-loop-at
invariant-loop-at l = IsAlong l.self.nodes l.fn.set.node l.bits.items l.at

abbrev pub decreases-loop-at : goal.decreases-loop-at
decreases-loop-at l = l.at
