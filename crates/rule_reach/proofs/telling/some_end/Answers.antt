use Rattle.rule_reach.proofs.Ends.{left_more}
use Rattle.rule_reach.proofs.telling.some_end.Goals as goal

pub loop-end-preserved : goal.loop-end-preserved
loop-end-preserved c =
    left_more c.args.diagrams.now c.args.ends.now c.loop-end.end-index _ c.loop-end-test.true c.loop-end.invariant c.if-is_end.ensures
