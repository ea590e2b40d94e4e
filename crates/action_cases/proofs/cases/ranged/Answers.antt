use Rattle.action_cases.proofs.cases.ranged.Goals as goal

pub returns-clause-value : goal.returns-clause-value
returns-clause-value c = rw (c.low.ensures, c.high.ensures) at c.passing.ensures.value
