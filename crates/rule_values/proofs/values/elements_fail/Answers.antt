use Rattle.nft_tree.specs.TreeViews.{element_tree}
use Rattle.rule_values.specs.TypedValues.{key_ranges}
use Rattle.rule_values.specs.steps.Checks.{fails}
use Rattle.rule_values.specs.steps.Views.{key_types_of}
use Rattle.rule_values.proofs.Tests.{none_at_all, none_here, some_here}
use Rattle.rule_values.proofs.values.elements_fail.Goals as goal

pub loop-element-preserved : goal.loop-element-preserved
loop-element-preserved c =
    none_here (fails c.args.value_check c.args.network.now) (λ e. key_ranges (key_types_of c.args.kinds.now) e.key) element_tree
    _ _ c.loop-element.invariant c.element-item.result c.loop-element-test.true c.element-item.is c.if-key_fails.ensures

pub returns-then-key_fails : goal.returns-then-key_fails
returns-then-key_fails c = some_here _ _ _ _ _ c.element-item.result c.loop-element-test.true c.element-item.is c.if-key_fails.ensures

pub returns : goal.returns
returns c = none_at_all _ _ _ _ _ c.loop-element.invariant c.loop-element-test.false
