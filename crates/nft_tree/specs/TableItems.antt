-- Chains, sets, maps, rules and counters by where they are in a ruleset (own: the numbering).
use Rattle.std.specs.Prelude.{ℕ, zero, suc, List, Option, Some, None, slice_get}
use Rattle.std.specs.List.{filter_map}
use Rattle.std.specs.Option.{option_and_then}
use Rattle.nft_tree.specs.declared.ruleset.RuleNo.{RuleNo}
use Rattle.nft_tree.specs.declared.statement.CounterStart.{CounterStart}
use Rattle.nft_tree.specs.Tree as tree
use Rattle.nft_tree.specs.Tree.{Statement, RuleTree, ChainTree, SetTree, MapTree, ItemTree, TableTree}

-- ---- items

-- The chain, set or map that an item is, if it is one.
abbrev pub chain_in : ItemTree → Option ChainTree
chain_in (tree.chain c) = Some c
chain_in _ = None

abbrev pub set_in : ItemTree → Option SetTree
set_in (tree.set s) = Some s
set_in _ = None

abbrev pub map_in : ItemTree → Option MapTree
map_in (tree.map_item m) = Some m
map_in _ = None

-- The chains of a table, in text order.
abbrev pub chains_of : TableTree → List ChainTree
chains_of t = filter_map chain_in t.items

-- The sets of a table, in text order.
abbrev pub sets_of : TableTree → List SetTree
sets_of t = filter_map set_in t.items

-- The maps of a table, in text order.
abbrev pub maps_of : TableTree → List MapTree
maps_of t = filter_map map_in t.items

-- ---- rules by number: tables and chains are counted from 0, rules from 1 (own)

-- The element of this number, counted from 1.
abbrev pub numbered_from_one : {A : Type 0} → List A → ℕ → Option A
numbered_from_one xs zero = None
numbered_from_one xs (suc n) = slice_get xs n

-- The chain that holds the rule of this number.
abbrev pub chain_numbered : List TableTree → RuleNo → Option ChainTree
chain_numbered tables number =
    option_and_then (λ t. slice_get (chains_of t) number.chain) (slice_get tables number.table)

-- The rule of this number.
abbrev pub rule_numbered : List TableTree → RuleNo → Option RuleTree
rule_numbered tables number =
    option_and_then (λ c. numbered_from_one c.rules number.rule) (chain_numbered tables number)

-- ---- counters

-- The initial value of a counter: zero if none is given (nft(8), "Counter statement").
abbrev pub start_of : Option CounterStart → CounterStart
start_of None = record { packets = 0; bytes = 0 }
start_of (Some start) = start

-- The initial value of a statement that is a counter.
abbrev pub counter_in : Statement → Option CounterStart
counter_in (tree.counter start) = Some (start_of start)
counter_in _ = None
