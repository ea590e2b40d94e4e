use Rattle.rule_reach.proofs.Ends.{Left}
use Rattle.rule_reach.proofs.telling.some_end.Given as goal

abbrev pub invariant-loop-end : goal.invariant-loop-end
invariant-loop-end l = Left l.diagrams l.ends l.end-index
