use Rattle.rule_values.specs.steps.Views.{key_types_of}
use Rattle.rule_values.proofs.Joined.{ends, goes_on, passes, stops}
use Rattle.rule_values.proofs.values.joined_fail.Goals as goal

pub returns-in_default : goal.returns-in_default
returns-in_default c = stops _ _ (key_types_of c.args.kinds.now) c.args.values.now c.loop-part.part c.loop-part.invariant c.in_default.ensures

pub returns-then-fails_value : goal.returns-then-fails_value
returns-then-fails_value c = passes _ _ (key_types_of c.args.kinds.now) c.args.values.now c.loop-part.part
    c.loop-part.invariant c.in-Some.kind c.index-values-part.result c.in-Some.ensures c.loop-part-test.true
    c.index-values-part.is c.if-fails_value.ensures

pub loop-part-preserved : goal.loop-part-preserved
loop-part-preserved c = goes_on _ _ (key_types_of c.args.kinds.now) c.args.values.now c.loop-part.part
    c.loop-part.invariant c.in-Some.kind c.index-values-part.result c.in-Some.ensures c.loop-part-test.true
    c.index-values-part.is c.if-fails_value.ensures

pub returns : goal.returns
returns c = ends _ _ (key_types_of c.args.kinds.now) c.args.values.now c.loop-part.part c.loop-part.invariant c.loop-part-test.false
