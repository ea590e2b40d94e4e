-- Names of tables, chains, sets and maps, and references to them (nft(8), "Tables", "Chains", "Sets",
-- "Maps").
use Rattle.std.specs.Prelude.{◌≡◌, ℕ, suc, ◌<◌, ◌&&◌, cond, Bool, true, false, not, List, [], ◌∷◌, length, get_or, map}
use Rattle.std.specs.Prelude.{filter, find, flat_map, Contains, Option, Some, None, is_some}
use Rattle.std.specs.List.{filter_map, list_any}
use Rattle.std.specs.Option.{option_map}
use Rattle.std.specs.Str.{bytes_eq}
use Rattle.nft_tree.specs.declared.ruleset.Family.{Family}
use Rattle.nft_tree.specs.declared.ruleset.Family.TheVariants as families
use Rattle.nft_tree.specs.Tree as tree
use Rattle.nft_tree.specs.Tree.{Text, VerdictTree, DataTree, PairTree, MapRefTree, SetRefTree}
use Rattle.nft_tree.specs.Tree.{Statement, RuleTree, ChainTree, SetTree, MapTree, ItemTree, TableTree}
use Rattle.nft_tree.specs.TableItems.{chains_of, sets_of, maps_of}

-- ---- N01: duplicate names (own: nft merges declarations of the same name)

-- two elements of the list are the same name
pub record HasDuplicate (names : List Text) : Type 0 where
  pub first : ℕ
  pub second : ℕ
  pub apart : first < second
  pub within : second < length names
  pub same : get_or names first [] ≡ get_or names second []

abbrev pub same_family : Family → Family → Bool
same_family families.Ip families.Ip = true
same_family families.Inet families.Inet = true
same_family _ _ = false

-- the names of the tables of a family
abbrev pub table_names : Family → List TableTree → List Text
table_names family tables = map (λ t. t.name) (filter (λ t. same_family t.family family) tables)

abbrev pub chain_names : TableTree → List Text
chain_names t = map (λ c. c.name) (chains_of t)

abbrev pub set_names : TableTree → List Text
set_names t = map (λ s. s.name) (sets_of t)

abbrev pub map_names : TableTree → List Text
map_names t = map (λ m. m.name) (maps_of t)

-- the name of a set or a map
abbrev pub set_or_map_name : ItemTree → Option Text
set_or_map_name (tree.set s) = Some s.name
set_or_map_name (tree.map_item m) = Some m.name
set_or_map_name _ = None

-- sets and maps of a table share a namespace
abbrev pub set_and_map_names : TableTree → List Text
set_and_map_names t = filter_map set_or_map_name t.items

-- two tables of one family have the same name, or two chains of a table, or two sets or maps of a table
pub data DuplicateName (tables : List TableTree) : Type 0 where
  two_tables : (family : Family) → HasDuplicate (table_names family tables) → DuplicateName tables
  two_chains : (t : TableTree) → Contains tables t → HasDuplicate (chain_names t) → DuplicateName tables
  two_sets_or_maps : (t : TableTree) → Contains tables t → HasDuplicate (set_and_map_names t)
      → DuplicateName tables

-- ---- lookup by name

abbrev pub chain_named : TableTree → Text → Option ChainTree
chain_named t name = find (λ c. bytes_eq c.name name) (chains_of t)

-- the index of the first occurrence of a name
abbrev pub index_in : Text → List Text → Option ℕ
index_in name [] = None
index_in name (n ∷ ns) = cond (bytes_eq n name) (Some 0) (option_map suc (index_in name ns))

abbrev pub set_named : TableTree → Text → Option SetTree
set_named t name = find (λ s. bytes_eq s.name name) (sets_of t)

abbrev pub map_named : TableTree → Text → Option MapTree
map_named t name = find (λ m. bytes_eq m.name name) (maps_of t)

-- ---- jumps and gotos

-- the chain that a verdict jumps or goes to
abbrev pub target_of : VerdictTree → Option Text
target_of (tree.jump name) = Some name
target_of (tree.goto name) = Some name
target_of _ = None

abbrev pub data_target : DataTree → Option Text
data_target (tree.to_verdict v) = target_of v
data_target (tree.to_value v) = None

abbrev pub pair_targets : List PairTree → List Text
pair_targets ps = filter_map (λ p. data_target p.value) ps

-- those of an anonymous map; a named map is an item of its own
abbrev pub map_ref_targets : MapRefTree → List Text
map_ref_targets (tree.named_map name) = []
map_ref_targets (tree.pairs ps) = pair_targets ps

abbrev pub one_or_none : Option Text → List Text
one_or_none None = []
one_or_none (Some name) = name ∷ []

-- the chains that a statement jumps or goes to, directly or by the data of an anonymous map
abbrev pub statement_targets : Statement → List Text
statement_targets (tree.verdict v) = one_or_none (target_of v)
statement_targets (tree.verdict_map s m) = map_ref_targets m
statement_targets (tree.set_mark f (tree.looked_up l)) = map_ref_targets l.map
statement_targets (tree.nat (tree.source (tree.source_lookup l))) = map_ref_targets l.map
statement_targets (tree.nat (tree.destination (tree.destination_lookup l))) = map_ref_targets l.map
statement_targets _ = []

abbrev pub rule_targets : RuleTree → List Text
rule_targets r = flat_map statement_targets r.statements

abbrev pub some_of : {A : Type 0} → Option (List A) → List A
some_of None = []
some_of (Some xs) = xs

abbrev pub item_targets : ItemTree → List Text
item_targets (tree.chain c) = flat_map rule_targets c.rules
item_targets (tree.map_item m) = pair_targets (some_of m.elements)
item_targets _ = []

-- all chains that a table's rules and maps jump or go to, also those of maps that no rule uses
abbrev pub targets_of : TableTree → List Text
targets_of t = flat_map item_targets t.items

-- N02: a jump or goto to a name that is no chain of the table
abbrev pub jumps_to_unknown_chain : TableTree → Bool
jumps_to_unknown_chain t = list_any (λ name. not (is_some (chain_named t name))) (targets_of t)

-- the name is that of a base chain
abbrev pub is_base_chain : TableTree → Text → Bool
is_base_chain t name = list_any (λ c. bytes_eq c.name name && is_some c.head) (chains_of t)

-- N07: a jump or goto to a base chain
abbrev pub jumps_to_base_chain : TableTree → Bool
jumps_to_base_chain t = list_any (is_base_chain t) (targets_of t)

-- ---- references to sets and maps

abbrev pub set_ref_names : SetRefTree → List Text
set_ref_names (tree.named_set name) = name ∷ []
set_ref_names (tree.elements es) = []

abbrev pub map_ref_names : MapRefTree → List Text
map_ref_names (tree.named_map name) = name ∷ []
map_ref_names (tree.pairs ps) = []

-- the names after `@` in a statement
abbrev pub statement_references : Statement → List Text
statement_references (tree.matching (tree.is_in ss set)) = set_ref_names set
statement_references (tree.matching (tree.not_in ss set)) = set_ref_names set
statement_references (tree.verdict_map s m) = map_ref_names m
statement_references (tree.set_mark f (tree.looked_up l)) = map_ref_names l.map
statement_references (tree.nat (tree.source (tree.source_lookup l))) = map_ref_names l.map
statement_references (tree.nat (tree.destination (tree.destination_lookup l))) = map_ref_names l.map
statement_references _ = []

abbrev pub rule_references : RuleTree → List Text
rule_references r = flat_map statement_references r.statements

abbrev pub item_references : ItemTree → List Text
item_references (tree.chain c) = flat_map rule_references c.rules
item_references _ = []

abbrev pub references_of : TableTree → List Text
references_of t = flat_map item_references t.items

abbrev pub is_set_or_map : TableTree → Text → Bool
is_set_or_map t name = list_any (bytes_eq name) (set_and_map_names t)

-- N03: a name after `@` that is no set or map of the table
abbrev pub refers_to_unknown_set : TableTree → Bool
refers_to_unknown_set t = list_any (λ name. not (is_set_or_map t name)) (references_of t)
