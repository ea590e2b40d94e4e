use Rattle.fact_sets.proofs.SetLaws.{keeps_trans}
use Rattle.chain_sets.proofs.Nesting.{never}
use Rattle.ruleset_diff.proofs.diffing.coming_within.Goals as goal

pub returns-in-Some-clause-keeps : goal.returns-in-Some-clause-keeps
returns-in-Some-clause-keeps c =
    keeps_trans c.args.diagrams.now c.coming_to.new.diagrams c.accepted.new.diagrams c.coming_to.ensures.keeps c.accepted.ensures.keeps

pub returns-in_err-coming-clause-too_deep : goal.returns-in_err-coming-clause-too_deep
returns-in_err-coming-clause-too_deep c = never _ c.from_residual.result _ c.from_residual.ensures.1
