use Rattle.std.proofs.Common.{◌≡◌, drop, map}
use Rattle.std.specs.List.{list_any}
use Rattle.nft_tree.specs.TreeViews.{flag_tree}
use Rattle.rule_values.specs.Faults.{flag_out_of_range}
use Rattle.rule_values.proofs.bounds.flags_out_of_range.Given as goal

-- what the rest says is what all say
abbrev pub invariant-loop-flag : goal.invariant-loop-flag
invariant-loop-flag l = list_any flag_out_of_range (map flag_tree (drop l.flag-index l.flags))
    ≡ list_any flag_out_of_range (map flag_tree l.flags)
