-- All values of a ruleset with the types that they must have, and all maps with the types of their keys and
-- data (nft(8), "Data types", "Sets", "Maps").
use Rattle.std.specs.Prelude.{List, [], ◌∷◌, map, flat_map, Option, Some, None}
use Rattle.nft_tree.specs.declared.selector.Selector.{Selector}
use Rattle.nft_tree.specs.declared.selector.ValueType.TheVariants as types
use Rattle.nft_tree.specs.declared.compared_types.ComparedType.{ComparedType}
use Rattle.nft_tree.specs.declared.compared_types.ComparedType.TheVariants.{Named}
use Rattle.nft_tree.specs.Tree as tree
use Rattle.nft_tree.specs.Tree.{ValueTree, RangeTree, KeyTree, ElementTree, DataTree, PairTree, SetRefTree, MapRefTree}
use Rattle.nft_tree.specs.Tree.{MatchTree, Statement, RuleTree, MapTree, ItemTree, TableTree}
use Rattle.nft_tree.specs.ComparedTypes.{selector_compared_type, key_compared_types, map_key_compared_type, map_data_compared_type}

abbrev pub some_of : {A : Type 0} → Option (List A) → List A
some_of None = []
some_of (Some xs) = xs

-- ---- maps

-- a map's elements with the types of their keys and data; `None` for verdicts
pub record TypedMap : Type 0 where
  pub key : ComparedType
  pub value : Option ComparedType
  pub elements : List PairTree

abbrev pub declared_map : MapTree → TypedMap
declared_map m =
    record {
      key = map_key_compared_type m.types;
      value = map_data_compared_type m.types;
      elements = some_of m.elements;
    }

-- an anonymous map, in which a selector is looked up
abbrev pub anonymous_map : Selector → Option ComparedType → MapRefTree → List TypedMap
anonymous_map s wanted (tree.named_map name) = []
anonymous_map s wanted (tree.pairs ps) =
    record { key = selector_compared_type s; value = wanted; elements = ps } ∷ []

-- the data of `mark set` are marks, those of `snat` and `dnat` addresses
abbrev pub statement_maps : Statement → List TypedMap
statement_maps (tree.verdict_map s m) = anonymous_map s None m
statement_maps (tree.set_mark f (tree.looked_up l)) = anonymous_map l.selector (Some (Named types.Mark)) l.map
statement_maps (tree.nat (tree.source (tree.source_lookup l))) =
    anonymous_map l.selector (Some (Named types.Address)) l.map
statement_maps (tree.nat (tree.destination (tree.destination_lookup l))) =
    anonymous_map l.selector (Some (Named types.Address)) l.map
statement_maps _ = []

abbrev pub rule_maps : RuleTree → List TypedMap
rule_maps r = flat_map statement_maps r.statements

abbrev pub item_maps : ItemTree → List TypedMap
item_maps (tree.chain c) = flat_map rule_maps c.rules
item_maps (tree.map_item m) = declared_map m ∷ []
item_maps _ = []

-- all maps of a table, also the anonymous ones
abbrev pub maps_in : TableTree → List TypedMap
maps_in t = flat_map item_maps t.items

-- ---- values

-- a value, a range or a prefix, and the type that it must have
pub record TypedRange : Type 0 where
  pub kind : ComparedType
  pub range : RangeTree

abbrev pub typed_value : ComparedType → ValueTree → TypedRange
typed_value k v = record { kind = k; range = tree.one v }

-- the values of a concatenation, part by part
abbrev pub joined_ranges : List ComparedType → List ValueTree → List TypedRange
joined_ranges (k ∷ ks) (v ∷ vs) = typed_value k v ∷ joined_ranges ks vs
joined_ranges _ _ = []

abbrev pub key_ranges : List ComparedType → KeyTree → List TypedRange
key_ranges (k ∷ ks) (tree.single r) = record { kind = k; range = r } ∷ []
key_ranges [] (tree.single r) = []
key_ranges ks (tree.joined vs) = joined_ranges ks vs

abbrev pub element_ranges : List ComparedType → List ElementTree → List TypedRange
element_ranges ks es = flat_map (λ e. key_ranges ks e.key) es

abbrev pub set_ref_ranges : List Selector → SetRefTree → List TypedRange
set_ref_ranges ss (tree.named_set name) = []
set_ref_ranges ss (tree.elements es) = element_ranges (map selector_compared_type ss) es

abbrev pub match_ranges : MatchTree → List TypedRange
match_ranges (tree.compare s o r) = record { kind = selector_compared_type s; range = r } ∷ []
match_ranges (tree.is_in ss set) = set_ref_ranges ss set
match_ranges (tree.not_in ss set) = set_ref_ranges ss set
match_ranges _ = []

abbrev pub data_ranges : Option ComparedType → DataTree → List TypedRange
data_ranges (Some k) (tree.to_value v) = typed_value k v ∷ []
data_ranges _ _ = []

-- the keys and data of a map's elements
abbrev pub map_ranges : TypedMap → List TypedRange
map_ranges m = flat_map (λ p. record { kind = m.key; range = p.key } ∷ data_ranges m.value p.value) m.elements

abbrev pub statement_ranges : Statement → List TypedRange
statement_ranges (tree.matching m) = match_ranges m
statement_ranges s = flat_map map_ranges (statement_maps s)

abbrev pub rule_ranges : RuleTree → List TypedRange
rule_ranges r = flat_map statement_ranges r.statements

abbrev pub item_ranges : ItemTree → List TypedRange
item_ranges (tree.chain c) = flat_map rule_ranges c.rules
item_ranges (tree.set s) = element_ranges (key_compared_types s.key) (some_of s.elements)
item_ranges (tree.map_item m) = map_ranges (declared_map m)
item_ranges (tree.comment text) = []

-- all values of a table: in comparisons, set elements, map keys and data
abbrev pub ranges_in : TableTree → List TypedRange
ranges_in t = flat_map item_ranges t.items
