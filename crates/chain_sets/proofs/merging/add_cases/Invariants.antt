use Rattle.std.proofs.Common.{drop}
use Rattle.chain_sets.specs.steps.Merging.{HavePackets}
use Rattle.chain_sets.proofs.Cases.{AddsSoFar}
use Rattle.chain_sets.proofs.merging.add_cases.Given as goal

abbrev pub invariant-loop-case : goal.invariant-loop-case
invariant-loop-case g l = record {
  so_far : AddsSoFar l.fn.diagrams l.diagrams (drop l.case-index l.more) l.more l.fn.cases.items l.cases.items;
  packets : HavePackets l.fn.diagrams l.fn.cases.items → HavePackets l.diagrams l.cases.items;
}
