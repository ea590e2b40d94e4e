-- Which types match: keys and selectors, data and statements, operators, ranges and types (nft(8), "Sets",
-- "Maps", "Expressions"; the list of what is refused: own).
use Rattle.std.specs.Prelude.{ℕ, ◌==◌, ◌&&◌, ◌||◌, not, nat_lt, Bool, true, false, List, [], ◌∷◌, length, map, sum_by}
use Rattle.std.specs.Prelude.{Option, Some, None, is_some}
use Rattle.std.specs.List.{list_any}
use Rattle.nft_tree.specs.declared.selector.Selector.{Selector}
use Rattle.nft_tree.specs.declared.selector.ValueType.{ValueType}
use Rattle.nft_tree.specs.declared.selector.ValueType.TheVariants as types
use Rattle.nft_tree.specs.declared.compared_types.ComparedType.{ComparedType}
use Rattle.nft_tree.specs.declared.compared_types.ComparedType.TheVariants.{Named, Unnamed}
use Rattle.nft_tree.specs.declared.statement.Operator.{Operator}
use Rattle.nft_tree.specs.declared.statement.Operator.TheVariants as operators
use Rattle.nft_tree.specs.Tree as tree
use Rattle.nft_tree.specs.Tree.{RangeTree, KeyTree, DataTree, PairTree, SetRefTree, MapRefTree, MatchTree, Statement}
use Rattle.nft_tree.specs.Tree.{RuleTree, SetTree, MapTree, ItemTree, TableTree}
use Rattle.nft_tree.specs.ComparedTypes.{compared_type_width, selector_compared_type, key_compared_types}
use Rattle.nft_tree.specs.ComparedTypes.{map_key_compared_type, map_data_compared_type}
use Rattle.rule_names.specs.Names.{set_named, map_named, some_of}

-- ---- types

-- types are the same if their names are, or if both have no name and the same width
abbrev pub same_type : ValueType → ValueType → Bool
same_type types.Address types.Address = true
same_type types.Protocol types.Protocol = true
same_type types.Service types.Service = true
same_type types.TcpFlag types.TcpFlag = true
same_type types.IcmpType types.IcmpType = true
same_type types.InterfaceName types.InterfaceName = true
same_type types.InterfaceIndex types.InterfaceIndex = true
same_type types.Mark types.Mark = true
same_type types.Family types.Family = true
same_type types.CtState types.CtState = true
same_type types.CtDirection types.CtDirection = true
same_type types.CtStatus types.CtStatus = true
same_type _ _ = false

abbrev pub same_compared_type : ComparedType → ComparedType → Bool
same_compared_type (Named a) (Named b) = same_type a b
same_compared_type (Unnamed a) (Unnamed b) = a == b
same_compared_type _ _ = false

abbrev pub same_compared_types : List ComparedType → List ComparedType → Bool
same_compared_types [] [] = true
same_compared_types (a ∷ others) (b ∷ bs) = same_compared_type a b && same_compared_types others bs
same_compared_types _ _ = false

abbrev pub MAX_KEY_WIDTH : ℕ
MAX_KEY_WIDTH = 128

-- the concatenation is wider than 128 bits
abbrev pub is_too_wide : List ComparedType → Bool
is_too_wide kinds = nat_lt MAX_KEY_WIDTH (sum_by compared_type_width kinds)

-- the types with an order: ipv4_addr, inet_service, mark, and those without a name
abbrev pub is_ordered : ComparedType → Bool
is_ordered (Named types.Address) = true
is_ordered (Named types.Service) = true
is_ordered (Named types.Mark) = true
is_ordered (Unnamed width) = true
is_ordered _ = false

-- the types with ranges: those, inet_proto and icmp_type
abbrev pub has_ranges : ComparedType → Bool
has_ranges (Named types.Protocol) = true
has_ranges (Named types.IcmpType) = true
has_ranges k = is_ordered k

-- a range of a type without ranges
abbrev pub range_mismatches : ComparedType → RangeTree → Bool
range_mismatches k (tree.between low high) = not (has_ranges k)
range_mismatches k _ = false

-- ---- a selector against a value

abbrev pub is_order : Operator → Bool
is_order operators.Below = true
is_order operators.Above = true
is_order operators.AtMost = true
is_order operators.AtLeast = true
is_order _ = false

abbrev pub is_single : RangeTree → Bool
is_single (tree.one v) = true
is_single _ = false

-- an order against a range or a prefix, or of a type without order; a range of a type without ranges
abbrev pub compare_mismatches : Selector → Operator → RangeTree → Bool
compare_mismatches s o r =
    (is_order o && not (is_single r && is_ordered (selector_compared_type s)))
    || range_mismatches (selector_compared_type s) r

-- ---- elements of sets

-- the key has another number of parts than the set, or is a range of a type without ranges
abbrev pub key_mismatches : List ComparedType → KeyTree → Bool
key_mismatches (k ∷ []) (tree.single r) = range_mismatches k r
key_mismatches kinds (tree.single r) = true
key_mismatches kinds (tree.joined vs) = not (length vs == length kinds)

abbrev pub set_mismatches : SetTree → Bool
set_mismatches s =
    is_too_wide (key_compared_types s.key)
    || list_any (λ e. key_mismatches (key_compared_types s.key) e.key) (some_of s.elements)

-- a set of other types than the selectors'
abbrev pub named_set_mismatches : List ComparedType → Option SetTree → Option MapTree → Bool
named_set_mismatches kinds (Some s) m = not (same_compared_types kinds (key_compared_types s.key))
-- a map where a set is wanted
named_set_mismatches kinds None m = is_some m

abbrev pub set_ref_mismatches : TableTree → List ComparedType → SetRefTree → Bool
set_ref_mismatches t kinds (tree.named_set name) =
    named_set_mismatches kinds (set_named t name) (map_named t name)
set_ref_mismatches t kinds (tree.elements es) = list_any (λ e. key_mismatches kinds e.key) es

-- selectors against a set
abbrev pub lookup_mismatches : TableTree → List Selector → SetRefTree → Bool
lookup_mismatches t ss set =
    is_too_wide (map selector_compared_type ss) || set_ref_mismatches t (map selector_compared_type ss) set

abbrev pub match_mismatches : TableTree → MatchTree → Bool
match_mismatches t (tree.compare s o r) = compare_mismatches s o r
match_mismatches t (tree.is_in ss set) = lookup_mismatches t ss set
match_mismatches t (tree.not_in ss set) = lookup_mismatches t ss set
match_mismatches t _ = false

-- ---- elements of maps: the data type is `None` for verdicts, `Some k` for values of type k

-- a verdict where a value is wanted, or the reverse
abbrev pub data_mismatches : Option ComparedType → DataTree → Bool
data_mismatches None (tree.to_verdict v) = false
data_mismatches (Some k) (tree.to_value v) = false
data_mismatches _ _ = true

abbrev pub pair_mismatches : ComparedType → Option ComparedType → PairTree → Bool
pair_mismatches key wanted p = range_mismatches key p.key || data_mismatches wanted p.value

abbrev pub map_mismatches : MapTree → Bool
map_mismatches m =
    list_any (pair_mismatches (map_key_compared_type m.types) (map_data_compared_type m.types))
    (some_of m.elements)

abbrev pub same_data : Option ComparedType → Option ComparedType → Bool
same_data None None = true
same_data (Some a) (Some b) = same_compared_type a b
same_data _ _ = false

-- a map of another key type than the selector's, or of another data type than is wanted
abbrev pub named_map_mismatches : ComparedType → Option ComparedType → Option SetTree → Option MapTree → Bool
named_map_mismatches key wanted s (Some m) =
    not (same_compared_type key (map_key_compared_type m.types)
    && same_data wanted (map_data_compared_type m.types))
-- a set where a map is wanted
named_map_mismatches key wanted s None = is_some s

abbrev pub map_ref_mismatches : TableTree → Selector → Option ComparedType → MapRefTree → Bool
map_ref_mismatches t s wanted (tree.named_map name) =
    named_map_mismatches (selector_compared_type s) wanted (set_named t name) (map_named t name)
map_ref_mismatches t s wanted (tree.pairs ps) =
    list_any (pair_mismatches (selector_compared_type s) wanted) ps

-- ---- statements

-- `vmap` needs a map to verdicts, `mark set` one to marks, `snat` and `dnat` one to addresses
abbrev pub statement_mismatches : TableTree → Statement → Bool
statement_mismatches t (tree.matching m) = match_mismatches t m
statement_mismatches t (tree.verdict_map s m) = map_ref_mismatches t s None m
statement_mismatches t (tree.set_mark f (tree.looked_up l)) =
    map_ref_mismatches t l.selector (Some (Named types.Mark)) l.map
statement_mismatches t (tree.nat (tree.source (tree.source_lookup l))) =
    map_ref_mismatches t l.selector (Some (Named types.Address)) l.map
statement_mismatches t (tree.nat (tree.destination (tree.destination_lookup l))) =
    map_ref_mismatches t l.selector (Some (Named types.Address)) l.map
statement_mismatches t _ = false

abbrev pub rule_mismatches : TableTree → RuleTree → Bool
rule_mismatches t r = list_any (statement_mismatches t) r.statements

abbrev pub item_mismatches : TableTree → ItemTree → Bool
item_mismatches t (tree.chain c) = list_any (rule_mismatches t) c.rules
item_mismatches t (tree.set s) = set_mismatches s
item_mismatches t (tree.map_item m) = map_mismatches m
item_mismatches t (tree.comment text) = false

-- N08: type mismatch
abbrev pub table_mismatches : TableTree → Bool
table_mismatches t = list_any (item_mismatches t) t.items
