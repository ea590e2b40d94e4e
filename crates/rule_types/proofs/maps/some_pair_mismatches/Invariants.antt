use Rattle.std.proofs.Common.{◌≡◌, drop, map}
use Rattle.std.specs.List.{list_any}
use Rattle.nft_tree.specs.TreeViews.{pair_tree}
use Rattle.rule_types.specs.Types.{pair_mismatches}
use Rattle.rule_types.proofs.maps.some_pair_mismatches.Given as goal

-- the result is that for the remaining pairs
abbrev pub invariant-loop-pair : goal.invariant-loop-pair
invariant-loop-pair l = list_any (pair_mismatches l.key l.wanted) (map pair_tree (drop l.pair-index l.pairs))
    ≡ list_any (pair_mismatches l.key l.wanted) (map pair_tree l.pairs)
