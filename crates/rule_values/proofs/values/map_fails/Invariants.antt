use Rattle.nft_tree.specs.TreeViews.{pair_tree}
use Rattle.rule_values.specs.steps.Checks.{fails, pair_ranges}
use Rattle.rule_values.specs.steps.Views.{elements_tree}
use Rattle.rule_values.proofs.Tests.{NoneBefore}
use Rattle.rule_values.proofs.values.map_fails.Given as goal

-- no value of the pairs so far fails
abbrev pub invariant-loop-pair : goal.invariant-loop-pair
invariant-loop-pair l = NoneBefore (fails l.value_check l.network) (pair_ranges (elements_tree l.elements)) pair_tree l.pair-items l.pair-index
