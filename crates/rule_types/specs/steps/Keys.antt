-- The form of keys: one value or range of a type, or a concatenation of so many values.
use Rattle.std.specs.Prelude.{List, [], ◌∷◌, ◌==◌, not, length, Bool, true, false, Option, Some, None}
use Rattle.nft_tree.specs.Tree as tree
use Rattle.nft_tree.specs.Tree.{KeyTree}
use Rattle.nft_tree.specs.declared.compared_types.ComparedType.{ComparedType}
use Rattle.rule_types.specs.declared.keys.KeyShape.{KeyShape}
use Rattle.rule_types.specs.declared.keys.KeyShape.TheVariants.{One, Joined}
use Rattle.rule_types.specs.Types.{range_mismatches, same_compared_type}

-- the form of keys of these types
abbrev pub shape_of : List ComparedType → KeyShape
shape_of (k ∷ []) = One k
shape_of kinds = Joined (length kinds)

-- the key hasn't the form
abbrev pub shape_mismatches : KeyShape → KeyTree → Bool
shape_mismatches (One k) (tree.single r) = range_mismatches k r
shape_mismatches (Joined n) (tree.single r) = true
shape_mismatches (One k) (tree.joined vs) = not (length vs == 1)
shape_mismatches (Joined n) (tree.joined vs) = not (length vs == n)

-- there is such a part of the key, and it is of the type
abbrev pub part_is : Option ComparedType → ComparedType → Bool
part_is (Some declared) k = same_compared_type k declared
part_is None k = false
