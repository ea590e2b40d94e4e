use Rattle.rule_check.proofs.LeastFaults.{one_least}
use Rattle.rule_check.proofs.laws.least_fault_unique.Goals as goal

pub returns-clause-one : goal.returns-clause-one
returns-clause-one c = one_least

pub returns-clause-faultless : goal.returns-clause-faultless
returns-clause-faultless c = λ tables network fault well least. well fault least.wrong
