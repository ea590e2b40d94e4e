use Rattle.nft_tree.specs.TreeViews.{pair_tree}
use Rattle.rule_values.specs.steps.Checks.{fails, pair_ranges}
use Rattle.rule_values.specs.steps.Views.{elements_tree}
use Rattle.rule_values.proofs.Tests.{none_at_all, none_here, some_here}
use Rattle.rule_values.proofs.values.map_fails.Goals as goal

pub loop-pair-preserved : goal.loop-pair-preserved
loop-pair-preserved c =
    none_here (fails c.args.value_check c.args.network.now) (pair_ranges (elements_tree c.args.elements.now)) pair_tree
    _ _ c.loop-pair.invariant c.pair-item.result c.loop-pair-test.true c.pair-item.is c.if-pair_fails.ensures

pub returns-then-pair_fails : goal.returns-then-pair_fails
returns-then-pair_fails c =
    some_here (fails c.args.value_check c.args.network.now) (pair_ranges (elements_tree c.args.elements.now)) pair_tree _ _
    c.pair-item.result c.loop-pair-test.true c.pair-item.is c.if-pair_fails.ensures

pub returns : goal.returns
returns c = none_at_all (fails c.args.value_check c.args.network.now) (pair_ranges (elements_tree c.args.elements.now)) pair_tree _ _
    c.loop-pair.invariant c.loop-pair-test.false
