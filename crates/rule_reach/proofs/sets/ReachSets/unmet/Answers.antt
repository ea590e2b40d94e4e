use Rattle.rule_reach.specs.Reach.{run_chains}
use Rattle.rule_reach.proofs.Made.{all_kept}
use Rattle.rule_reach.proofs.sets.ReachSets.unmet.Goals as goal

pub returns-clause-sets : goal.returns-clause-sets
returns-clause-sets c = all_kept c.args.checked.now.network c.args.checked.now.rules c.args.self.now.diagrams c.unmet_by.new.diagrams
    (run_chains c.args.checked.now.rules) c.args.self.now.bases.items c.unmet_by.ensures.keeps c.requires
