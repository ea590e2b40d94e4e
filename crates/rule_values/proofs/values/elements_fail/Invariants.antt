use Rattle.nft_tree.specs.TreeViews.{element_tree}
use Rattle.rule_values.specs.TypedValues.{key_ranges}
use Rattle.rule_values.specs.steps.Checks.{fails}
use Rattle.rule_values.specs.steps.Views.{key_types_of}
use Rattle.rule_values.proofs.Tests.{NoneBefore}
use Rattle.rule_values.proofs.values.elements_fail.Given as goal

-- no value of the elements so far fails
abbrev pub invariant-loop-element : goal.invariant-loop-element
invariant-loop-element l = NoneBefore (fails l.value_check l.network) (λ e. key_ranges (key_types_of l.kinds) e.key) element_tree l.elements l.element-index
