-- Answers put together.
use Rattle.rule_reach.specs.declared.answers.Answer.{Answer}
use Rattle.rule_reach.specs.declared.answers.Answer.TheVariants.{Met, NotMatched, NotReached}

-- for two groups of packets
abbrev pub better : Answer → Answer → Answer
better Met _ = Met
better _ Met = Met
better NotReached NotReached = NotReached
better _ _ = NotMatched
