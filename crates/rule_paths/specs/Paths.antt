-- Jumps and gotos: cycles, depth, cost, and which base chains may have or reach NAT statements (nft(8),
-- "Verdict statement", "NAT statements").
use Rattle.std.specs.Prelude.{◌≡◌, ℕ, ◌+◌, ◌<◌, Bool, true, false, List, [], ◌∷◌, map, sum_by, flat_map, Contains}
use Rattle.std.specs.Prelude.{Option, Some, None}
use Rattle.std.specs.List.{list_any}
use Rattle.nft_tree.specs.declared.chain.ChainKind.{ChainKind}
use Rattle.nft_tree.specs.declared.chain.ChainKind.TheVariants as kinds
use Rattle.nft_tree.specs.declared.chain.Hook.{Hook}
use Rattle.nft_tree.specs.declared.chain.Hook.TheVariants as hooks
use Rattle.nft_tree.specs.Tree as tree
use Rattle.nft_tree.specs.Tree.{Text, VerdictTree, DataTree, PairTree, Statement, HeadTree, ChainTree}
use Rattle.nft_tree.specs.Tree.{MapTree, TableTree}
use Rattle.nft_tree.specs.TableItems.{chains_of}
use Rattle.rule_names.specs.Names.{chain_named, chain_names, map_named, some_of}
use Rattle.chain_graph.specs.Graph as graph
use Rattle.chain_graph.specs.Graph.{Call, NodeTree, calls_in, HasCycle, HasPathOver, node_cost, Reaches}

-- ---- calls

-- the nodes of the call graph: chains, and named maps, which statements look up and whose data call chains
pub data Caller : Type 0 where
  a_chain : Text → Caller
  a_map : Text → Caller

abbrev pub verdict_calls : VerdictTree → List (Call Caller)
verdict_calls (tree.jump name) = record { to = a_chain name; is_jump = true } ∷ []
verdict_calls (tree.goto name) = record { to = a_chain name; is_jump = false } ∷ []
verdict_calls _ = []

abbrev pub data_calls : DataTree → List (Call Caller)
data_calls (tree.to_verdict v) = verdict_calls v
data_calls (tree.to_value v) = []

abbrev pub pair_calls : List PairTree → List (Call Caller)
pair_calls ps = flat_map (λ p. data_calls p.value) ps

-- the calls of a statement: of its verdict, or of its verdict map, whatever types the map declares
abbrev pub statement_calls : Statement → List (Call Caller)
statement_calls (tree.verdict v) = verdict_calls v
statement_calls (tree.verdict_map s (tree.named_map name)) = record { to = a_map name; is_jump = false } ∷ []
statement_calls (tree.verdict_map s (tree.pairs ps)) = pair_calls ps
statement_calls _ = []

abbrev pub statements_of : ChainTree → List Statement
statements_of c = flat_map (λ r. r.statements) c.rules

abbrev pub chain_node : Option ChainTree → NodeTree Caller
chain_node None = graph.chain []
chain_node (Some c) = graph.chain (map statement_calls (statements_of c))

abbrev pub map_node : Option MapTree → NodeTree Caller
map_node None = graph.verdict_map []
map_node (Some m) = graph.verdict_map (pair_calls (some_of m.elements))

-- the node of a name in the table; an unknown name has an empty node
abbrev pub node_of : TableTree → Caller → NodeTree Caller
node_of t (a_chain name) = chain_node (chain_named t name)
node_of t (a_map name) = map_node (map_named t name)

abbrev pub CallsOf : TableTree → Caller → Call Caller → Type 0
CallsOf t caller call = Contains (calls_in (node_of t caller)) call

-- ---- N04, N05

-- N04: a cycle of jumps and gotos, those of verdict maps included
pub record Cycles (tables : List TableTree) : Type 0 where
  pub table : TableTree
  pub member : Contains tables table
  pub cycle : HasCycle (CallsOf table)

abbrev pub MAX_JUMPS : ℕ
MAX_JUMPS = 16

-- a path with more than 16 jumps from a chain of the table (NFT_JUMP_STACK_SIZE). The verdicts of a map count
-- as those of the rules that look it up (nft(8), "Verdict statement", "Vmap statement")
pub record HasDeepPath (t : TableTree) : Type 0 where
  pub chain : Text
  pub member : Contains (chain_names t) chain
  pub path : HasPathOver MAX_JUMPS (CallsOf t)
  pub begins : path.from ≡ a_chain chain

-- N05: a table has such a path
pub record TooDeep (tables : List TableTree) : Type 0 where
  pub table : TableTree
  pub member : Contains tables table
  pub deep : HasDeepPath table

-- ---- N06 (own): the cost of a ruleset bounds the statements that one packet can meet

-- `cost` solves the cost equations of a table: a chain costs, for each statement, 1 and the greatest cost
-- among its targets, a map the greatest cost among its targets
abbrev pub AreCosts : TableTree → (Caller → ℕ) → Type 0
AreCosts t cost = (caller : Caller) → cost caller ≡ node_cost cost (node_of t caller)

abbrev pub base_cost : (Caller → ℕ) → Text → Option HeadTree → ℕ
base_cost cost name None = 0
base_cost cost name (Some head) = 1 + cost (a_chain name)

-- the costs of the base chains of a table, plus 1 for each
abbrev pub table_cost : (Caller → ℕ) → TableTree → ℕ
table_cost cost t = sum_by (λ c. base_cost cost c.name c.head) (chains_of t)

abbrev pub MAX_COST : ℕ
MAX_COST = 65536

-- `cost` solves the cost equations of each table of a ruleset
abbrev pub AreAllCosts : List TableTree → (TableTree → Caller → ℕ) → Type 0
AreAllCosts tables cost = (t : TableTree) → Contains tables t → AreCosts t (cost t)

-- the cost of a ruleset: that of the base chains of all its tables, plus 1 for each
abbrev pub ruleset_cost : (TableTree → Caller → ℕ) → List TableTree → ℕ
ruleset_cost cost tables = sum_by (λ t. table_cost (cost t) t) tables

-- N06: the ruleset costs more than 65,536
pub record TooCostly (tables : List TableTree) : Type 0 where
  pub cost : TableTree → Caller → ℕ
  pub are : AreAllCosts tables cost
  pub over : MAX_COST < ruleset_cost cost tables

-- ---- N10: misplaced NAT statements

abbrev pub translates_source : Statement → Bool
translates_source (tree.nat (tree.source target)) = true
translates_source (tree.nat (tree.masquerade ports)) = true
translates_source _ = false

abbrev pub translates_destination : Statement → Bool
translates_destination (tree.nat (tree.destination target)) = true
translates_destination (tree.nat (tree.redirect port)) = true
translates_destination _ = false

-- some statement of the chain passes the test
abbrev pub chain_has : (Statement → Bool) → Option ChainTree → Bool
chain_has test None = false
chain_has test (Some c) = list_any test (statements_of c)

abbrev pub caller_has : (Statement → Bool) → TableTree → Caller → Bool
caller_has test t (a_chain name) = chain_has test (chain_named t name)
caller_has test t (a_map name) = false

-- source NAT is valid in chains of type nat on postrouting (own: nft(8) has snat on input too)
abbrev pub may_translate_source : ChainKind → Hook → Bool
may_translate_source kinds.Nat hooks.Postrouting = true
may_translate_source _ _ = false

-- destination NAT is valid in chains of type nat on prerouting or output
abbrev pub may_translate_destination : ChainKind → Hook → Bool
may_translate_destination kinds.Nat hooks.Prerouting = true
may_translate_destination kinds.Nat hooks.Output = true
may_translate_destination _ _ = false

-- a base chain that may not have such a statement has one, or reaches a chain that has one
pub record Misplaces (test : Statement → Bool) (may : ChainKind → Hook → Bool) (t : TableTree) : Type 0 where
  pub base : ChainTree
  pub member : Contains (chains_of t) base
  pub head : HeadTree
  pub is_base : base.head ≡ Some head
  pub may_not : may head.kind head.hook ≡ false
  pub reaching : Reaches (CallsOf t) (λ caller. caller_has test t caller ≡ true) (a_chain base.name)

-- N10: snat or masquerade, dnat or redirect in a chain that is, or is reachable from, a base chain that may
-- not have it
pub data MisplacedNat (tables : List TableTree) : Type 0 where
  misplaced_source : (t : TableTree) → Contains tables t → Misplaces translates_source may_translate_source t
      → MisplacedNat tables
  misplaced_destination : (t : TableTree) → Contains tables t
      → Misplaces translates_destination may_translate_destination t → MisplacedNat tables
