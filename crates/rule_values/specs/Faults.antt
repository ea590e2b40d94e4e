-- Faults of values: not of their type or out of range, unknown interfaces, overlapping map elements with
-- different data (nft(8), "Data types", "Maps").
use Rattle.std.specs.Prelude.{ℕ, pos, negsuc, ◌^◌, ◌==◌, ◌&&◌, ◌||◌, not, nat_lt, nat_le, int_lt, Bool, true, false}
use Rattle.std.specs.Prelude.{length, Option, Some, None}
use Rattle.std.specs.List.{list_any, filter_map}
use Rattle.std.specs.Option.{option_map}
use Rattle.std.specs.Str.{bytes_eq}
use Rattle.nft_tree.specs.declared.compared_types.ComparedType.{ComparedType}
use Rattle.nft_tree.specs.declared.nat.PortRange.{PortRange}
use Rattle.nft_tree.specs.declared.nat.PortRange.TheVariants as ports
use Rattle.nft_tree.specs.declared.chain.Priority.{Priority}
use Rattle.nft_tree.specs.Tree as tree
use Rattle.nft_tree.specs.Tree.{VerdictTree, DataTree, PairTree, FlagTree, MatchTree, SourceTree}
use Rattle.nft_tree.specs.Tree.{DestinationTree, NatTree, Statement, ChainTree, ItemTree}
use Rattle.nft_tree.specs.Tree.{TableTree}
use Rattle.nft_tree.specs.Priorities.{priority_number}
use Rattle.box_file.specs.Box.{PlantTree, any_pair}
use Rattle.nft_values.specs.Values.{Span, is_range, is_range_on_box, numbers_of}
use Rattle.rule_values.specs.TypedValues.{TypedRange, TypedMap, ranges_in, maps_in}

-- ---- N09: values that aren't of their type or out of range

abbrev pub is_of_type : PlantTree → TypedRange → Bool
is_of_type network r = is_range network r.kind r.range

-- a port, not 0
abbrev pub is_port : ℕ → Bool
is_port n = nat_lt 0 n && nat_lt n 65536

abbrev pub are_ports : PortRange → Bool
are_ports (ports.One n) = is_port n
are_ports (ports.Between low high) = is_port low && is_port high && nat_le low high

abbrev pub if_some : {A : Type 0} → (A → Bool) → Option A → Bool
if_some test None = false
if_some test (Some x) = test x

abbrev pub source_out_of_range : SourceTree → Bool
source_out_of_range (tree.source_address a p) = if_some (λ r. not (are_ports r)) p
source_out_of_range (tree.source_lookup l) = false

abbrev pub destination_out_of_range : DestinationTree → Bool
destination_out_of_range (tree.destination_address a p) = if_some (λ n. not (is_port n)) p
destination_out_of_range (tree.destination_lookup l) = false

-- the ports of a NAT statement
abbrev pub nat_out_of_range : NatTree → Bool
nat_out_of_range (tree.source target) = source_out_of_range target
nat_out_of_range (tree.destination target) = destination_out_of_range target
nat_out_of_range (tree.masquerade p) = if_some (λ r. not (are_ports r)) p
nat_out_of_range (tree.redirect p) = if_some (λ n. not (is_port n)) p

-- TCP flags have 8 bits (RFC 9293, section 3.1)
abbrev pub flag_out_of_range : FlagTree → Bool
flag_out_of_range (tree.flag_word w) = false
flag_out_of_range (tree.flag_number n) = not (nat_lt n 256)

abbrev pub match_out_of_range : MatchTree → Bool
match_out_of_range (tree.any_flag fs) = list_any flag_out_of_range fs
match_out_of_range (tree.exact_flags fs) = list_any flag_out_of_range fs
match_out_of_range (tree.masked_flags wanted mask) =
    list_any flag_out_of_range wanted || list_any flag_out_of_range mask
match_out_of_range (tree.masked_flags_unequal wanted mask) =
    list_any flag_out_of_range wanted || list_any flag_out_of_range mask
match_out_of_range _ = false

abbrev pub MAX_LOG_PREFIX : ℕ
MAX_LOG_PREFIX = 127

-- TCP flags, a 32-bit mark, the prefix of a log (at most 127 bytes), ports
abbrev pub statement_out_of_range : Statement → Bool
statement_out_of_range (tree.matching m) = match_out_of_range m
statement_out_of_range (tree.set_mark f (tree.constant n)) = not (nat_lt n (2 ^ 32))
statement_out_of_range (tree.log text) = if_some (λ t. nat_lt MAX_LOG_PREFIX (length t)) text
statement_out_of_range (tree.nat n) = nat_out_of_range n
statement_out_of_range _ = false

-- a priority is a signed 32-bit number: -2147483648 to 2147483647
abbrev pub priority_out_of_range : Priority → Bool
priority_out_of_range p =
    int_lt (priority_number p) (negsuc 2147483647) || int_lt (pos 2147483647) (priority_number p)

abbrev pub chain_out_of_range : ChainTree → Bool
chain_out_of_range c =
    if_some (λ h. priority_out_of_range h.priority) c.head
    || list_any (λ r. list_any statement_out_of_range r.statements) c.rules

abbrev pub item_out_of_range : ItemTree → Bool
item_out_of_range (tree.chain c) = chain_out_of_range c
item_out_of_range _ = false

-- N09: a value that isn't of its type, or a number of a statement or chain head out of range
abbrev pub has_wrong_value : PlantTree → TableTree → Bool
has_wrong_value network t =
    list_any (λ r. not (is_of_type network r)) (ranges_in t) || list_any item_out_of_range t.items

-- ---- N13: interfaces that the box doesn't have

abbrev pub names_unknown_interface : PlantTree → TableTree → Bool
names_unknown_interface network t = list_any (λ r. not (is_range_on_box network r.kind r.range)) (ranges_in t)

-- ---- N12: overlapping map elements with different data

abbrev pub same_verdict : VerdictTree → VerdictTree → Bool
same_verdict tree.accept tree.accept = true
same_verdict tree.drop tree.drop = true
same_verdict tree.continue tree.continue = true
same_verdict tree.return tree.return = true
same_verdict (tree.jump a) (tree.jump b) = bytes_eq a b
same_verdict (tree.goto a) (tree.goto b) = bytes_eq a b
same_verdict _ _ = false

-- the data of a map element: a verdict, or the numbers of a value
pub data ElementData : Type 0 where
  a_verdict : VerdictTree → ElementData
  a_value : Span → ElementData

abbrev pub same_span : Span → Span → Bool
same_span a b = a.low == b.low && a.high == b.high

abbrev pub same_element_data : ElementData → ElementData → Bool
same_element_data (a_verdict v) (a_verdict w) = same_verdict v w
same_element_data (a_value a) (a_value b) = same_span a b
same_element_data _ _ = false

-- the numbers of an element's key, and its data
pub record MapEntry : Type 0 where
  pub keys : Span
  pub given : ElementData

abbrev pub element_data : PlantTree → Option ComparedType → DataTree → Option ElementData
element_data network wanted (tree.to_verdict v) = Some (a_verdict v)
element_data network (Some k) (tree.to_value v) = option_map a_value (numbers_of network k (tree.one v))
element_data network None (tree.to_value v) = None

abbrev pub entry_with : Option Span → Option ElementData → Option MapEntry
entry_with (Some keys) (Some given) = Some (record { keys = keys; given = given })
entry_with _ _ = None

-- an element whose key and data denote numbers (without a fault of a lower number, all do)
abbrev pub map_entry_of : PlantTree → TypedMap → PairTree → Option MapEntry
map_entry_of network m p = entry_with (numbers_of network m.key p.key) (element_data network m.value p.value)

-- two elements overlap and have different data
abbrev pub contradict : MapEntry → MapEntry → Bool
contradict a b =
    nat_le a.keys.low b.keys.high && nat_le b.keys.low a.keys.high && not (same_element_data a.given b.given)

abbrev pub map_contradicts : PlantTree → TypedMap → Bool
map_contradicts network m = any_pair contradict (filter_map (map_entry_of network m) m.elements)

abbrev pub has_contradiction : PlantTree → TableTree → Bool
has_contradiction network t = list_any (map_contradicts network) (maps_in t)
