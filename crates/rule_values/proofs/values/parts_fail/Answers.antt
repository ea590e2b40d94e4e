use Rattle.rule_values.specs.steps.Checks.{fails}
use Rattle.rule_values.proofs.Tests.{none_at_all, none_here, some_here}
use Rattle.rule_values.proofs.values.parts_fail.Goals as goal

pub loop-part-preserved : goal.loop-part-preserved
loop-part-preserved g c =
    none_here (fails c.args.value_check c.args.network.now) g.T.HasRanges.ranges_of g.T.HasRanges.tree _ _ c.loop-part.invariant c.part-item.result
    c.loop-part-test.true c.part-item.is c.if-some_fails.ensures

pub returns-then-some_fails : goal.returns-then-some_fails
returns-then-some_fails g c = some_here _ _ _ _ _ c.part-item.result c.loop-part-test.true c.part-item.is c.if-some_fails.ensures

pub returns : goal.returns
returns g c = none_at_all _ _ _ _ _ c.loop-part.invariant c.loop-part-test.false
