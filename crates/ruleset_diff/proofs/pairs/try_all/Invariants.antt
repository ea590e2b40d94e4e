use Rattle.ruleset_diff.proofs.Compared.{TriedTo}
use Rattle.ruleset_diff.proofs.pairs.try_all.Given as goal

abbrev pub invariant-loop-index : goal.invariant-loop-index
invariant-loop-index l =
    TriedTo l.initial.diagrams l.diagrams l.stage l.left l.new l.index l.set l.initial.differences.items l.differences.items
