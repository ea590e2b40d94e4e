-- A ruleset with some of its parts, and a ruleset as far as it has been read. Parts are counted from 0, in text
-- order. (own)
use Rattle.std.specs.Prelude.{ℕ, zero, suc, ◌-◌, nat_le, nat_lt, min, cond, List, [], ◌∷◌, map, take, Some, None}
use Rattle.std.specs.Prelude.{slice_range}
use Rattle.std.specs.List.{cons_option}
use Rattle.std.specs.Option.{option_map}
use Rattle.nft_tree.specs.Tree as tree
use Rattle.nft_tree.specs.Tree.{SetRefTree, MapRefTree, MapLookupTree, MatchTree, OperandTree, SourceTree}
use Rattle.nft_tree.specs.Tree.{DestinationTree, NatTree, Statement, RuleTree, ItemTree, TableTree}
use Rattle.fault_nodes.specs.Parts.{declarations, item_parts, rule_parts, statement_parts, table_declarations}
use Rattle.fault_nodes.specs.Parts.{table_parts}

-- ---- lists

-- Some nodes with only the parts `from..to` of them all: `cut from to x` is the node x with only the parts
-- `from..to` of its own. A node that has none of them is left out.
abbrev pub parts_between : {A : Type 0} → (A → ℕ) → (ℕ → ℕ → A → A) → (from to : ℕ) → List A → List A
parts_between parts cut from to [] = []
parts_between parts cut from to (x ∷ xs) =
    cons_option (cond (nat_lt from (min to (parts x))) (Some (cut from to x)) None)
    (parts_between parts cut (from - parts x) (to - parts x) xs)

-- The same, but all nodes stay.
abbrev pub all_with_parts_between : {A : Type 0} → (A → ℕ) → (ℕ → ℕ → A → A) → (from to : ℕ) → List A → List A
all_with_parts_between parts cut from to [] = []
all_with_parts_between parts cut from to (x ∷ xs) =
    cut from to x ∷ all_with_parts_between parts cut (from - parts x) (to - parts x) xs

-- ---- the elements `from..to` of a statement's anonymous set or map

abbrev pub set_ref_with : (from to : ℕ) → SetRefTree → SetRefTree
set_ref_with from to (tree.named_set name) = tree.named_set name
set_ref_with from to (tree.elements es) = tree.elements (slice_range es from to)

abbrev pub map_ref_with : (from to : ℕ) → MapRefTree → MapRefTree
map_ref_with from to (tree.named_map name) = tree.named_map name
map_ref_with from to (tree.pairs ps) = tree.pairs (slice_range ps from to)

abbrev pub lookup_with : (from to : ℕ) → MapLookupTree → MapLookupTree
lookup_with from to l = record l { map = map_ref_with from to l.map }

abbrev pub match_with : (from to : ℕ) → MatchTree → MatchTree
match_with from to (tree.is_in selectors set) = tree.is_in selectors (set_ref_with from to set)
match_with from to (tree.not_in selectors set) = tree.not_in selectors (set_ref_with from to set)
match_with from to m = m

abbrev pub operand_with : (from to : ℕ) → OperandTree → OperandTree
operand_with from to (tree.looked_up l) = tree.looked_up (lookup_with from to l)
operand_with from to o = o

abbrev pub source_with : (from to : ℕ) → SourceTree → SourceTree
source_with from to (tree.source_lookup l) = tree.source_lookup (lookup_with from to l)
source_with from to s = s

abbrev pub destination_with : (from to : ℕ) → DestinationTree → DestinationTree
destination_with from to (tree.destination_lookup l) = tree.destination_lookup (lookup_with from to l)
destination_with from to d = d

abbrev pub nat_with : (from to : ℕ) → NatTree → NatTree
nat_with from to (tree.source s) = tree.source (source_with from to s)
nat_with from to (tree.destination d) = tree.destination (destination_with from to d)
nat_with from to t = t

abbrev pub statement_with : (from to : ℕ) → Statement → Statement
statement_with from to (tree.matching m) = tree.matching (match_with from to m)
statement_with from to (tree.set_mark field operand) = tree.set_mark field (operand_with from to operand)
statement_with from to (tree.verdict_map selector m) = tree.verdict_map selector (map_ref_with from to m)
statement_with from to (tree.nat t) = tree.nat (nat_with from to t)
statement_with from to s = s

-- ---- nodes with only their parts `from..to`

-- the statement itself, which is part 0, and its elements of these parts
abbrev pub statement_between : (from to : ℕ) → Statement → Statement
statement_between from to s = statement_with (from - 1) (to - 1) s

-- the rule itself, which is part 0, and its statements of these parts
abbrev pub rule_between : (from to : ℕ) → RuleTree → RuleTree
rule_between from to r = record r {
  statements = parts_between statement_parts statement_between (from - 1) (to - 1) r.statements;
}

-- a chain with its head and its rules of these parts, a set or map with its elements of these parts
abbrev pub item_between : (from to : ℕ) → ItemTree → ItemTree
item_between from to (tree.comment text) = tree.comment text
item_between from to (tree.chain c) =
    tree.chain (record c { rules = parts_between rule_parts rule_between from to c.rules })
item_between from to (tree.set s) =
    tree.set (record s { elements = option_map (λ es. slice_range es from to) s.elements })
item_between from to (tree.map_item m) =
    tree.map_item (record m { elements = option_map (λ ps. slice_range ps from to) m.elements })

-- all items stay
abbrev pub table_between : (from to : ℕ) → TableTree → TableTree
table_between from to t = record t { items = all_with_parts_between item_parts item_between from to t.items }

-- A ruleset with all its declarations, and only its parts `from..to`.
abbrev pub ruleset_between : (from to : ℕ) → List TableTree → List TableTree
ruleset_between from to tables = all_with_parts_between table_parts table_between from to tables

-- ---- reading

-- a table with its first n items and no parts
abbrev pub table_declared : ℕ → TableTree → TableTree
table_declared n t = record t { items = map (item_between 0 0) (take n t.items) }

-- the first n declarations of a ruleset, of each table the table itself and then its items, with no parts
abbrev pub first_declarations : ℕ → List TableTree → List TableTree
first_declarations zero tables = []
first_declarations (suc n) [] = []
first_declarations (suc n) (t ∷ ts) = table_declared n t ∷ first_declarations (suc n - table_declarations t) ts

-- A ruleset that is read up to n: first all declarations are read, so that each name is known, then all parts.
abbrev pub read_up_to : ℕ → List TableTree → List TableTree
read_up_to n tables =
    cond (nat_le n (declarations tables)) (first_declarations n tables)
    (ruleset_between 0 (n - declarations tables) tables)
