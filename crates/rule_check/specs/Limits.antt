-- The limits on a ruleset's size (own).
use Rattle.std.specs.Prelude.{ℕ, ◌^◌, nat_lt, List, length, sum_by, Option, Some, None, Bool, false, ◌||◌}
use Rattle.std.specs.List.{list_any}
use Rattle.nft_tree.specs.Tree as tree
use Rattle.nft_tree.specs.Tree.{SetRefTree, MapRefTree, MapLookupTree, Statement, RuleTree, ItemTree, TableTree}

-- ---- elements

-- The elements of an anonymous set.
abbrev pub set_ref_elements : SetRefTree → ℕ
set_ref_elements (tree.named_set name) = 0
set_ref_elements (tree.elements es) = length es

-- The elements of an anonymous map.
abbrev pub map_ref_elements : MapRefTree → ℕ
map_ref_elements (tree.named_map name) = 0
map_ref_elements (tree.pairs ps) = length ps

-- The elements of an anonymous set or map in a statement.
abbrev pub statement_elements : Statement → ℕ
statement_elements (tree.matching (tree.is_in ss set)) = set_ref_elements set
statement_elements (tree.matching (tree.not_in ss set)) = set_ref_elements set
statement_elements (tree.set_mark m (tree.looked_up l)) = map_ref_elements l.map
statement_elements (tree.verdict_map s map) = map_ref_elements map
statement_elements (tree.nat (tree.source (tree.source_lookup l))) = map_ref_elements l.map
statement_elements (tree.nat (tree.destination (tree.destination_lookup l))) = map_ref_elements l.map
statement_elements _ = 0

-- The elements of the anonymous sets and maps of a rule.
abbrev pub rule_elements : RuleTree → ℕ
rule_elements r = sum_by statement_elements r.statements

-- The length of a list that may be absent.
abbrev pub length_if : {A : Type 0} → Option (List A) → ℕ
length_if None = 0
length_if (Some xs) = length xs

-- The elements of a named set or map, or of the anonymous ones in a chain.
abbrev pub item_elements : ItemTree → ℕ
item_elements (tree.comment text) = 0
item_elements (tree.chain c) = sum_by rule_elements c.rules
item_elements (tree.set s) = length_if s.elements
item_elements (tree.map_item m) = length_if m.elements

-- The number of elements in all sets and maps.
abbrev pub element_count : List TableTree → ℕ
element_count tables = sum_by (λ t. sum_by item_elements t.items) tables

-- ---- rules

-- The number of rules in a chain.
abbrev pub item_rules : ItemTree → ℕ
item_rules (tree.chain c) = length c.rules
item_rules _ = 0

-- The number of rules in all chains.
abbrev pub rule_count : List TableTree → ℕ
rule_count tables = sum_by (λ t. sum_by item_rules t.items) tables

-- ---- chains

-- One for a chain.
abbrev pub item_chains : ItemTree → ℕ
item_chains (tree.chain c) = 1
item_chains _ = 0

-- The number of chains in all tables.
abbrev pub chain_count : List TableTree → ℕ
chain_count tables = sum_by (λ t. sum_by item_chains t.items) tables

-- ---- counters

-- The greatest initial value of a counter.
abbrev pub GREATEST_START : ℕ
GREATEST_START = 2 ^ 62

-- A counter whose initial packets or bytes exceed the limit.
abbrev pub starts_too_high : Statement → Bool
starts_too_high (tree.counter (Some start)) =
    nat_lt GREATEST_START start.packets || nat_lt GREATEST_START start.bytes
starts_too_high _ = false

-- Some counter of a chain exceeds the limit.
abbrev pub item_starts_too_high : ItemTree → Bool
item_starts_too_high (tree.chain c) = list_any (λ r. list_any starts_too_high r.statements) c.rules
item_starts_too_high _ = false

-- Some counter of the ruleset exceeds the limit.
abbrev pub some_start_too_high : List TableTree → Bool
some_start_too_high tables = list_any (λ t. list_any item_starts_too_high t.items) tables

-- ---- all limits

-- The greatest number of rules.
abbrev pub MOST_RULES : ℕ
MOST_RULES = 16384

-- The greatest number of elements.
abbrev pub MOST_ELEMENTS : ℕ
MOST_ELEMENTS = 65536

-- The ruleset exceeds a limit.
abbrev pub too_large : List TableTree → Bool
too_large tables =
    nat_lt MOST_RULES (rule_count tables) || nat_lt MOST_ELEMENTS (element_count tables)
    || some_start_too_high tables
