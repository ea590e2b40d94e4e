use Rattle.std.proofs.Common.{List}
use Rattle.packet_sets.specs.declared.branch.Branch.{Branch}
use Rattle.packet_sets.specs.steps.Nodes.{AreNodes}
use Rattle.packet_sets.specs.steps.Operations.{AreRight}
use Rattle.packet_sets.proofs.memo.Memo.grow.Given as goal

abbrev pub invariant-loop-entry : goal.invariant-loop-entry
invariant-loop-entry l = (nodes : List Branch) → AreNodes nodes → AreRight nodes l.fn.self.entries.items → AreRight nodes l.larger.entries.items
