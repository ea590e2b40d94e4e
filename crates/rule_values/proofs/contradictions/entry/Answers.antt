use Rattle.rule_values.proofs.Entries.{makes-entry}
use Rattle.rule_values.proofs.contradictions.entry.Goals as goal

pub returns-in-Some-Some-clause-entry : goal.returns-in-Some-Some-clause-entry
returns-in-Some-Some-clause-entry c = makes-entry c.comparable_form_of.new.names.keys _ _ c.numbers_of.result
    c.in_ok-given.given c.in-Some-Some.keys c.in-Some-Some.given c.in-Some-Some.is-0 c.in-Some-Some.is-1
    c.numbers_of.ensures c.in_ok-given.ensures.comparable_data
