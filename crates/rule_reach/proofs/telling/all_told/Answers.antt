use Rattle.chain_sets.specs.RuleSets.{sets_of}
use Rattle.rule_reach.specs.steps.Telling.{IsTold}
use Rattle.rule_reach.proofs.Ends.{zip_more}
use Rattle.rule_reach.proofs.telling.all_told.Goals as goal

pub loop-reach-preserved : goal.loop-reach-preserved
loop-reach-preserved c = zip_more (IsTold c.args.diagrams.now c.args.table (sets_of c.args.visits.now)) c.args.rules.now c.loop-reach.all.items
    c.push.new.self.items c.loop-reach.reach-index _ c.told.result c.loop-reach-test.true c.in_ok-push.ensures.items c.told.ensures c.loop-reach.invariant
