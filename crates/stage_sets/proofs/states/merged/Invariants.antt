use Rattle.std.proofs.Common.{[], drop}
use Rattle.chain_sets.proofs.Cases.{AddsSoFar}
use Rattle.stage_sets.proofs.states.merged.Given as goal

abbrev pub invariant-loop-part : goal.invariant-loop-part
invariant-loop-part l = AddsSoFar l.fn.diagrams l.diagrams (drop l.part-index l.parts) l.parts [] l.states.items
