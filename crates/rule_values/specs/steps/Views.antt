-- The code's sets and maps as trees.
use Rattle.std.specs.Prelude.{List, [], ◌∷◌, map, Option, Some, None}
use Rattle.nft_tree.specs.declared.compared_types.ComparedType.{ComparedType}
use Rattle.nft_tree.specs.TreeViews.{pair_tree, set_type_tree}
use Rattle.nft_tree.specs.ComparedTypes.{key_compared_types, selector_compared_type}
use Rattle.rule_values.specs.declared.keys.KeyTypes.{KeyTypes}
use Rattle.rule_values.specs.declared.keys.KeyTypes.TheVariants as sources
use Rattle.rule_values.specs.declared.elements.Elements.{Elements}
use Rattle.rule_values.specs.TypedValues.{TypedMap}

-- the types of the parts of a set's keys
abbrev pub key_types_of : KeyTypes → List ComparedType
key_types_of (sources.Declared types) = key_compared_types (set_type_tree types.now)
key_types_of (sources.Selected selectors) = map selector_compared_type selectors.now

abbrev pub elements_tree : Elements → TypedMap
elements_tree e = record { key = e.key; value = e.value; elements = map pair_tree e.pairs.now }

abbrev pub listed : {A : Type 0} → Option A → List A
listed None = []
listed (Some x) = x ∷ []
