use Rattle.fact_sets.proofs.SetLaws.{keeps_trans}
use Rattle.ruleset_diff.proofs.pieces.with_connection.Goals as goal

pub returns-clause-keeps : goal.returns-clause-keeps
returns-clause-keeps c = keeps_trans c.args.diagrams.now c.at_least.new.self c.and.new.self c.at_least.ensures.keeps c.and.ensures.keeps
