use Rattle.rule_meaning.proofs.SameRuns.{counter_sees, nothing_behind}
use Rattle.rule_meaning.proofs.laws.counters_count.Goals as goal

pub returns-clause-seen : goal.returns-clause-seen
returns-clause-seen c = counter_sees

pub returns-clause-unseen : goal.returns-clause-unseen
returns-clause-unseen c = nothing_behind
