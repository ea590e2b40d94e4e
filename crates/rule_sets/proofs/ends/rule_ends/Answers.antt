use Rattle.rule_sets.proofs.Sorting.{keeps_trans}
use Rattle.rule_sets.proofs.ends.rule_ends.Goals as goal

pub returns-clause-keeps : goal.returns-clause-keeps
returns-clause-keeps c =
    keeps_trans c.args.diagrams.now c.ends_from.new.diagrams c.cut_to.new.diagrams c.ends_from.ensures.keeps c.cut_to.ensures.keeps
