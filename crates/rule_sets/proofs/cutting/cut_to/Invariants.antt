use Rattle.std.proofs.Common.{drop}
use Rattle.rule_sets.proofs.Within.{Cuts}
use Rattle.rule_sets.proofs.cutting.cut_to.Given as goal

-- with the ends that are left
abbrev pub invariant-loop-end : goal.invariant-loop-end
invariant-loop-end l = Cuts l.fn.diagrams l.diagrams l.fn.set l.parts.items (drop l.end-index l.ends) l.ends
