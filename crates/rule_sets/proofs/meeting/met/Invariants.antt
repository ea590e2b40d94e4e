use Rattle.std.proofs.Common.{drop}
use Rattle.rule_sets.proofs.LastStatement.{Meets}
use Rattle.rule_sets.proofs.meeting.met.Given as goal

-- with the ends that are left, as all of them
abbrev pub invariant-loop-end : goal.invariant-loop-end
invariant-loop-end l = Meets l.fn.diagrams l.diagrams l.met (drop l.end-index l.ends) l.ends
