use Rattle.fact_sets.proofs.SetLaws.{keeps_trans, keeps_twice}
use Rattle.rule_reach.specs.Reach.{run_chains}
use Rattle.rule_reach.proofs.Made.{all_kept}
use Rattle.rule_reach.proofs.takers.Told.unmet.Goals as goal

pub at_rule-requires-clause-sets : goal.at_rule-requires-clause-sets
at_rule-requires-clause-sets c = all_kept c.args.self.network.now c.args.self.tables.now c.args.diagrams.now c.alone.new.diagrams
    (run_chains c.args.self.tables.now) c.args.self.bases.now c.alone.ensures.keeps c.requires.sets

pub returns-in_err-first-clause-keeps : goal.returns-in_err-first-clause-keeps
returns-in_err-first-clause-keeps c =
    keeps_trans c.args.diagrams.now c.alone.new.diagrams c.at_rule.new.diagrams c.alone.ensures.keeps c.at_rule.ensures.keeps

pub takers-requires-clause-sets : goal.takers-requires-clause-sets
takers-requires-clause-sets c = all_kept c.args.self.network.now c.args.self.tables.now c.args.diagrams.now c.at_rule.new.diagrams
    (run_chains c.args.self.tables.now) c.args.self.bases.now
    (keeps_trans c.args.diagrams.now c.alone.new.diagrams c.at_rule.new.diagrams c.alone.ensures.keeps c.at_rule.ensures.keeps) c.requires.sets

pub returns-in_err-takers-clause-keeps : goal.returns-in_err-takers-clause-keeps
returns-in_err-takers-clause-keeps c = keeps_twice c.args.diagrams.now c.alone.new.diagrams c.at_rule.new.diagrams c.takers.new.diagrams
    c.alone.ensures.keeps c.at_rule.ensures.keeps c.takers.ensures.keeps

pub returns-clause-keeps : goal.returns-clause-keeps
returns-clause-keeps c = keeps_twice c.args.diagrams.now c.alone.new.diagrams c.at_rule.new.diagrams c.takers.new.diagrams
    c.alone.ensures.keeps c.at_rule.ensures.keeps c.takers.ensures.keeps
