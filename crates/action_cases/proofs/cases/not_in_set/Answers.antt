use Rattle.std.proofs.Common.{ℕ, Bool, true}
use Rattle.rule_meaning.specs.Matches.{tests}
use Rattle.rule_meaning.specs.Selectors.{joined_value}
use Rattle.rule_code.specs.Actions.{is_in_set}
use Rattle.fact_sets.specs.Cases.{seen}
use Rattle.fact_sets.proofs.SetLaws.{keeps_trans}
use Rattle.action_cases.proofs.CaseLaws.{not_ok, some_passes}
use Rattle.action_cases.proofs.cases.not_in_set.Goals as goal

pub returns-clause-keeps : goal.returns-clause-keeps
returns-clause-keeps c = keeps_trans c.args.diagrams.now c.in_set.new.diagrams c.others.new.diagrams (c.in_set.ensures.keeps) c.others.ensures.keeps

pub returns-clause-value : goal.returns-clause-value
returns-clause-value c =
    let v = λ (f : ℕ → Bool). joined_value c.args.selectors.now (seen c.args.reader f) in
    not_ok c.in_set.new.diagrams c.others.new.diagrams c.in_ok-among.among (λ f. tests (v f) (λ n. true))
    (λ f. tests (v f) (is_in_set c.args.lookups.now c.args.place)) _ c.others.result c.in_ok-among.ensures.value
    (λ f. some_passes (v f) (is_in_set c.args.lookups.now c.args.place)) c.others.ensures.value
