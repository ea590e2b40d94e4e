use Rattle.std.proofs.Common.{◌≡◌, map}
use Rattle.std.specs.List.{list_any}
use Rattle.nft_tree.specs.TreeViews.{value_tree}
use Rattle.rule_values.specs.TypedValues.{joined_ranges}
use Rattle.rule_values.specs.steps.Checks.{fails}
use Rattle.rule_values.specs.steps.Views.{key_types_of}
use Rattle.rule_values.proofs.Joined.{joined_from}
use Rattle.rule_values.proofs.values.joined_fail.Given as goal

-- the result is that for the remaining values
abbrev pub invariant-loop-part : goal.invariant-loop-part
invariant-loop-part l = list_any (fails l.value_check l.network)
    (joined_ranges (key_types_of l.kinds) (map value_tree l.values))
    ≡ list_any (fails l.value_check l.network) (joined_from (key_types_of l.kinds) l.values l.part)
