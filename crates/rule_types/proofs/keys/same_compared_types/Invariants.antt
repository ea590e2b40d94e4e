use Rattle.std.proofs.Common.{◌≡◌, ◌≤◌, map, drop, length}
use Rattle.nft_tree.specs.TreeViews.{set_type_tree}
use Rattle.nft_tree.specs.ComparedTypes.{key_compared_types, selector_compared_type}
use Rattle.rule_types.specs.Types.{same_compared_types}
use Rattle.rule_types.proofs.keys.same_compared_types.Given as goal

-- the set has the parts so far, and the types are the same if the remaining ones are
abbrev pub invariant-loop-part : goal.invariant-loop-part
invariant-loop-part l = record {
  within : l.part ≤ length (key_compared_types (set_type_tree l.key));
  left : same_compared_types (map selector_compared_type l.selectors) (key_compared_types (set_type_tree l.key))
      ≡ same_compared_types (drop l.part (map selector_compared_type l.selectors))
      (drop l.part (key_compared_types (set_type_tree l.key)));
}
