use Rattle.fact_sets.proofs.SetLaws.{keeps_trans}
use Rattle.ruleset_diff.proofs.pieces.before_lookup.Goals as goal

pub returns-clause-keeps : goal.returns-clause-keeps
returns-clause-keeps c = keeps_trans c.args.diagrams.now c.equal.new.self c.and.new.self c.equal.ensures.keeps c.and.ensures.keeps
