-- Sets as sets of numbers, and maps as partial functions of numbers (nft(8), "Sets", "Maps", "Data types").
use Rattle.std.specs.Prelude.{ℕ, nat_le, ◌&&◌, Bool, false, cond, List, [], ◌∷◌, map, Option, Some, None}
use Rattle.std.specs.List.{list_any}
use Rattle.std.specs.Option.{option_map, option_and_then, option_or}
use Rattle.nft_tree.specs.declared.selector.Selector.{Selector}
use Rattle.nft_tree.specs.declared.compared_types.ComparedType.{ComparedType}
use Rattle.nft_tree.specs.Tree as tree
use Rattle.nft_tree.specs.Tree.{VerdictTree, ValueTree, KeyTree, ElementTree, DataTree, PairTree}
use Rattle.nft_tree.specs.Tree.{SetRefTree, MapRefTree, SetTree, MapTree, TableTree}
use Rattle.nft_tree.specs.ComparedTypes.{compared_type_width, selector_compared_type, key_compared_types}
use Rattle.nft_tree.specs.ComparedTypes.{map_key_compared_type}
use Rattle.box_file.specs.Box.{PlantTree}
use Rattle.nft_values.specs.Values.{Span, one_number, numbers_of}
use Rattle.rule_names.specs.Names.{set_named, map_named, some_of}
use Rattle.rule_meaning.specs.declared.facts.Facts.{Facts}
use Rattle.rule_meaning.specs.Selectors.{value, join}

-- the context of a rule: the box, and the rule's table
pub record Scope : Type 0 where
  pub network : PlantTree
  pub table : TableTree

-- ---- the numbers that keys denote

-- the number lies in the span
abbrev pub spans : Option Span → ℕ → Bool
spans None n = false
spans (Some span) n = nat_le span.low n && nat_le n span.high

-- the number that a value of a type denotes
abbrev pub number_of : PlantTree → ComparedType → ValueTree → Option ℕ
number_of network k v = option_map (λ span. span.low) (numbers_of network k (tree.one v))

-- the parts of a concatenation with their widths; no value if there are more of the one than of the other
abbrev pub parts : PlantTree → List ComparedType → List ValueTree → List (ℕ × Option ℕ)
parts network [] [] = []
parts network (k ∷ ks) (v ∷ vs) = (compared_type_width k, number_of network k v) ∷ parts network ks vs
parts network _ _ = (0, None) ∷ []

-- the numbers that a key of these types denotes
abbrev pub key_numbers : PlantTree → List ComparedType → KeyTree → Option Span
key_numbers network (k ∷ []) (tree.single r) = numbers_of network k r
key_numbers network _ (tree.single r) = None
key_numbers network ks (tree.joined vs) = option_map one_number (join 0 (parts network ks vs))

-- ---- sets

-- some element contains the number. Overlapping elements are united; flags, size and auto-merge have no
-- effect (own)
abbrev pub elements_have : PlantTree → List ComparedType → List ElementTree → ℕ → Bool
elements_have network ks es n = list_any (λ e. spans (key_numbers network ks e.key) n) es

abbrev pub declared_has : PlantTree → Option SetTree → ℕ → Bool
declared_has network None n = false
declared_has network (Some s) n = elements_have network (key_compared_types s.key) (some_of s.elements) n

-- a named set has the types that it declares, an anonymous one those of the selectors
abbrev pub set_has : Scope → List Selector → SetRefTree → ℕ → Bool
set_has scope ss (tree.named_set name) n = declared_has scope.network (set_named scope.table name) n
set_has scope ss (tree.elements es) n = elements_have scope.network (map selector_compared_type ss) es n

-- ---- maps: `read` takes a verdict or a number from an element's data

abbrev pub data_verdict : DataTree → Option VerdictTree
data_verdict (tree.to_verdict v) = Some v
data_verdict (tree.to_value v) = None

-- as a value of this type
abbrev pub data_number : PlantTree → ComparedType → DataTree → Option ℕ
data_number network k (tree.to_value v) = number_of network k v
data_number network k (tree.to_verdict v) = None

abbrev pub pair_gives : {A : Type 0} → (DataTree → Option A) → PlantTree → ComparedType → ℕ → PairTree
    → Option A
pair_gives read network k n p = cond (spans (numbers_of network k p.key) n) (read p.value) None

-- the data of the first element that contains the number (overlapping ones with different data are refused,
-- N12)
abbrev pub pairs_give : {A : Type 0} → (DataTree → Option A) → PlantTree → ComparedType → List PairTree → ℕ
    → Option A
pairs_give read network k [] n = None
pairs_give read network k (p ∷ ps) n = option_or (pair_gives read network k n p) (pairs_give read network k ps n)

abbrev pub declared_gives : {A : Type 0} → (DataTree → Option A) → PlantTree → Option MapTree → ℕ → Option A
declared_gives read network None n = None
declared_gives read network (Some m) n =
    pairs_give read network (map_key_compared_type m.types) (some_of m.elements) n

abbrev pub map_gives : {A : Type 0} → (DataTree → Option A) → Scope → Selector → MapRefTree → ℕ → Option A
map_gives read scope s (tree.named_map name) n =
    declared_gives read scope.network (map_named scope.table name) n
map_gives read scope s (tree.pairs ps) n = pairs_give read scope.network (selector_compared_type s) ps n

-- the data of a map for the selector's value
abbrev pub looked_up : {A : Type 0} → (DataTree → Option A) → Scope → Selector → MapRefTree → Facts → Option A
looked_up read scope s m f = option_and_then (map_gives read scope s m) (value s f)
