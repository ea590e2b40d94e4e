use Rattle.fact_sets.specs.Cases.{seen}
use Rattle.fact_sets.proofs.SetLaws.{keeps_trans}
use Rattle.coming_sets.specs.Coming.{has_value}
use Rattle.coming_sets.proofs.Matching.{not_ok}
use Rattle.coming_sets.proofs.can_come.valueless.Goals as goal

pub returns-clause-keeps : goal.returns-clause-keeps
returns-clause-keeps c = keeps_trans c.args.diagrams.now c.matching.new.diagrams c.not.new.self c.matching.ensures.keeps c.not.ensures.keeps

pub returns-clause-value : goal.returns-clause-value
returns-clause-value c = not_ok c.matching.new.diagrams c.not.new.self c.in_ok-valued.valued (λ f. has_value c.args.selector (seen c.args.reader f))
    c.not.result c.in_ok-valued.ensures.value c.not.ensures.value
