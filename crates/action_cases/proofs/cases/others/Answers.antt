use Rattle.std.proofs.Common.{true}
use Rattle.rule_meaning.specs.Matches.{tests}
use Rattle.rule_meaning.specs.Selectors.{joined_value}
use Rattle.fact_sets.specs.Cases.{seen}
use Rattle.fact_sets.proofs.SetLaws.{keeps_trans}
use Rattle.action_cases.proofs.CaseLaws.{others_ok}
use Rattle.action_cases.proofs.cases.others.Goals as goal

pub returns-clause-keeps : goal.returns-clause-keeps
returns-clause-keeps c = keeps_trans c.args.diagrams.now c.present.new.diagrams c.without.new.self (c.present.ensures.keeps) c.without.ensures.keeps

pub without-requires-clause-right : goal.without-requires-clause-right
without-requires-clause-right c = c.present.ensures.keeps.sets c.args.set c.requires

pub returns-clause-value : goal.returns-clause-value
returns-clause-value c =
    others_ok c.args.diagrams.now c.present.new.diagrams c.without.new.self c.in_ok-all.all c.args.set
    (λ f. tests (joined_value c.args.selectors.now (seen c.args.reader f)) (λ n. true)) c.without.result c.present.ensures.keeps c.requires
    c.in_ok-all.ensures.value c.without.ensures.value
