-- The type by which two values are compared: a data type by its name, or by its width where it has none
-- (nft(8), "Data types"; `typeof`: nft(8), "Sets").
use Rattle.std.specs.Prelude.{ℕ, List, map, Option, Some, None}
use Rattle.nft_tree.specs.declared.selector.ValueType.{ValueType}
use Rattle.nft_tree.specs.declared.selector.Selector.{Selector}
use Rattle.nft_tree.specs.declared.set.MapType.{MapType}
use Rattle.nft_tree.specs.declared.compared_types.ComparedType.{ComparedType}
use Rattle.nft_tree.specs.declared.compared_types.ComparedType.TheVariants as compared_types
use Rattle.nft_tree.specs.declared.set.MapType.TheVariants as map_types
use Rattle.nft_tree.specs.declared.set.TypeOrVerdict.TheVariants as types_or_verdicts
use Rattle.nft_tree.specs.declared.set.SelectorOrVerdict.TheVariants as selectors_or_verdicts
use Rattle.nft_tree.specs.Tree as tree
use Rattle.nft_tree.specs.Tree.{SetTypeTree}
use Rattle.nft_tree.specs.ValueTypes.{selector_type, selector_width, type_width}

-- A type with a name, or the width of one without.
abbrev pub name_or_width : Option ValueType → ℕ → ComparedType
name_or_width (Some t) width = compared_types.Named t
name_or_width None width = compared_types.Unnamed width

-- The width of the type's values in bits.
abbrev pub compared_type_width : ComparedType → ℕ
compared_type_width (compared_types.Named t) = type_width t
compared_type_width (compared_types.Unnamed width) = width

-- The type of what a selector reads.
abbrev pub selector_compared_type : Selector → ComparedType
selector_compared_type s = name_or_width (selector_type s) (selector_width s)

-- The types of a set's key, one for each component of a concatenation.
abbrev pub key_compared_types : SetTypeTree → List ComparedType
key_compared_types (tree.types ts) = map compared_types.Named ts
key_compared_types (tree.selectors ss) = map selector_compared_type ss

-- The type of a map's keys.
abbrev pub map_key_compared_type : MapType → ComparedType
map_key_compared_type (map_types.Types t d) = compared_types.Named t
map_key_compared_type (map_types.Selectors s d) = selector_compared_type s

-- The type of a map's data; none in a verdict map.
abbrev pub map_data_compared_type : MapType → Option ComparedType
map_data_compared_type (map_types.Types t (types_or_verdicts.Type d)) = Some (compared_types.Named d)
map_data_compared_type (map_types.Selectors s (selectors_or_verdicts.Selector d)) =
    Some (selector_compared_type d)
map_data_compared_type _ = None
