use Rattle.std.proofs.Common.{drop}
use Rattle.rule_sets.proofs.Sorting.{Sorts}
use Rattle.rule_sets.proofs.parts.sorted.Given as goal

-- with the cases that are left, as all of them
abbrev pub invariant-loop-case : goal.invariant-loop-case
invariant-loop-case l = Sorts l.fn.diagrams l.diagrams l.fn.set l.rest l.parts.items (drop l.case-index l.cases) l.cases
