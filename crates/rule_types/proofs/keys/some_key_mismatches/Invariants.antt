use Rattle.std.proofs.Common.{◌≡◌, drop, map}
use Rattle.std.specs.List.{list_any}
use Rattle.nft_tree.specs.TreeViews.{element_tree}
use Rattle.rule_types.specs.steps.Keys.{shape_mismatches}
use Rattle.rule_types.proofs.keys.some_key_mismatches.Given as goal

-- the result is that for the remaining elements
abbrev pub invariant-loop-element : goal.invariant-loop-element
invariant-loop-element l = list_any (λ e. shape_mismatches l.shape e.key) (map element_tree (drop l.element-index l.elements))
    ≡ list_any (λ e. shape_mismatches l.shape e.key) (map element_tree l.elements)
