use Rattle.std.proofs.lemmas.Result.{IfOk-weaker}
use Rattle.rule_sets.proofs.Deciding.{decides_as, extends_same}
use Rattle.rule_sets.proofs.statements.statement_cases.Goals as goal

pub returns-clause-value : goal.returns-clause-value
returns-clause-value c =
    IfOk-weaker c.action_cases.result _ _ (λ cases h. decides_as c.action_cases.new.diagrams c.args.reader cases.items _ _
    (c.in_ok-action.ensures.effect c.action.new.lookups (extends_same c.action.new.lookups)) h) c.action_cases.ensures.value
