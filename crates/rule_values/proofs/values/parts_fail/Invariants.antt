use Rattle.rule_values.specs.steps.Checks.{fails}
use Rattle.rule_values.proofs.Tests.{NoneBefore}
use Rattle.rule_values.proofs.values.parts_fail.Given as goal

-- no value of the parts so far fails
abbrev pub invariant-loop-part : goal.invariant-loop-part
invariant-loop-part g l = NoneBefore (fails l.value_check l.network) g.T.HasRanges.ranges_of g.T.HasRanges.tree l.parts l.part-index
