use Rattle.std.proofs.Common.{◌≡◌, drop, map}
use Rattle.std.specs.List.{list_all}
use Rattle.nft_tree.specs.TreeViews.{flag_tree}
use Rattle.nft_rules.specs.Matches.{is_flag}
use Rattle.nft_rules.proofs.flags.are_flags.Given as goal

-- The words before this one are flags.
abbrev pub invariant-loop-flag : goal.invariant-loop-flag
invariant-loop-flag l =
    list_all is_flag (map flag_tree l.flags) ≡ list_all is_flag (map flag_tree (drop l.flag-index l.flags))
