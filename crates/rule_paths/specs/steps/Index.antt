-- The indices of the chains and maps of a table, and its call graph by index.
use Rattle.std.specs.Prelude.{◌≡◌, ◌⊎◌, ℕ, ◌+◌, ◌-◌, ◌<◌, ◌≤◌, List, [], ◌∷◌, ◌++◌, map, length, get_or, replicate, Option, Some, None}
use Rattle.std.specs.Prelude.{Bool, true, false, not, Contains, unwrap_or}
use Rattle.nft_tree.specs.declared.chain.ChainKind.{ChainKind}
use Rattle.nft_tree.specs.declared.chain.Hook.{Hook}
use Rattle.nft_tree.specs.Tree.{Statement, HeadTree, ChainTree, MapTree, TableTree}
use Rattle.nft_tree.specs.TableItems.{chains_of, maps_of}
use Rattle.rule_names.specs.Names.{chain_names, map_names, index_in}
use Rattle.chain_graph.specs.Graph.{Call, NodeTree, chain, verdict_map}
use Rattle.chain_graph.specs.Nodes.{Graph, node_at}
use Rattle.chain_graph.specs.Measures.{saturated}
use Rattle.rule_paths.specs.Paths.{Caller, a_chain, a_map, chain_node, map_node, node_of, chain_has}
use Rattle.rule_paths.specs.Paths.{translates_source, translates_destination, may_translate_source}
use Rattle.rule_paths.specs.Paths.{may_translate_destination}
use Rattle.rule_paths.specs.declared.marks.NatKind.{NatKind}
use Rattle.rule_paths.specs.declared.marks.NatKind.TheVariants.{Source, Destination}

abbrev pub numbered_call : {K : Type 0} → (K → ℕ) → Call K → Call ℕ
numbered_call number e = record { to = number e.to; is_jump = e.is_jump }

-- the node with its targets' keys replaced by indices
abbrev pub numbered : {K : Type 0} → (K → ℕ) → NodeTree K → NodeTree ℕ
numbered number (chain ss) = chain (map (map (numbered_call number)) ss)
numbered number (verdict_map es) = verdict_map (map (numbered_call number) es)

-- the node has no statements or elements
abbrev pub IsEmptyNode : {K : Type 0} → NodeTree K → Type 0
IsEmptyNode (chain ss) = ss ≡ []
IsEmptyNode (verdict_map es) = es ≡ []

-- the index after `before` others, or the one for unknown names
abbrev pub index_or : ℕ → ℕ → Option ℕ → ℕ
index_or before other None = other
index_or before other (Some i) = before + i

abbrev pub chain_count : TableTree → ℕ
chain_count t = length (chains_of t)

abbrev pub map_count : TableTree → ℕ
map_count t = length (maps_of t)

-- the chains, then the maps, then one node for unknown chains and one for unknown maps
abbrev pub index_of : TableTree → Caller → ℕ
index_of t (a_chain name) = unwrap_or (index_in name (chain_names t)) (chain_count t + map_count t)
index_of t (a_map name) =
    index_or (chain_count t) (chain_count t + map_count t + 1) (index_in name (map_names t))

abbrev pub chain_at : TableTree → ChainTree → NodeTree ℕ
chain_at t c = numbered (index_of t) (chain_node (Some c))

abbrev pub map_at : TableTree → MapTree → NodeTree ℕ
map_at t m = numbered (index_of t) (map_node (Some m))

abbrev pub missing_nodes : Graph
missing_nodes = chain [] ∷ verdict_map [] ∷ []

abbrev pub index_graph : TableTree → Graph
index_graph t = map (chain_at t) (chains_of t) ++ (map (map_at t) (maps_of t) ++ missing_nodes)

-- the call graph of the table has each caller's node at its index, the chains first in their order. Two callers share an index only where
-- both nodes are empty; all other nodes of the graph are empty
pub record IsTableGraph (t : TableTree) (g : Graph) : Type 0 where
  pub node : (a : Caller) → node_at g (index_of t a) ≡ numbered (index_of t) (node_of t a)
  pub inside : (a : Caller) → index_of t a < length g
  pub back : (i : ℕ) → ((a : Caller) × (index_of t a ≡ i)) ⊎ IsEmptyNode (node_at g i)
  pub apart : (a b : Caller) → index_of t a ≡ index_of t b → (a ≡ b) ⊎ IsEmptyNode (node_of t a)
  pub first : (i : ℕ) → i < chain_count t → index_of t (a_chain (get_or (chain_names t) i [])) ≡ i
  pub long : chain_count t ≤ length g

abbrev pub call_if : Option (Call ℕ) → List (Call ℕ)
call_if None = []
call_if (Some call) = call ∷ []

abbrev pub translates : NatKind → Statement → Bool
translates Source = translates_source
translates Destination = translates_destination

abbrev pub may_translate : NatKind → ChainKind → Hook → Bool
may_translate Source = may_translate_source
may_translate Destination = may_translate_destination

-- for each of `count` nodes, whether it is a chain with a statement that passes the test
abbrev pub marks_of : (Statement → Bool) → ℕ → TableTree → List Bool
marks_of test count t =
    map (λ c. chain_has test (Some c)) (chains_of t) ++ replicate (count - chain_count t) false

-- a base chain that may not have NAT statements of this kind
abbrev pub may_not_translate : NatKind → Option HeadTree → Bool
may_not_translate kind None = false
may_not_translate kind (Some head) = not (may_translate kind head.kind head.hook)

-- a base chain that may not have NAT statements of this kind reaches one
abbrev pub ReachesMisplaced : NatKind → List ChainTree → List Bool → Type 0
ReachesMisplaced kind chains reaching = (c : ChainTree) × (at : Contains chains c) × (may_not_translate kind c.head ≡ true)
    × (get_or reaching at.0 false ≡ true)

abbrev pub with_base : ℕ → ℕ → Option HeadTree → ℕ
with_base sum cost None = sum
with_base sum cost (Some head) = saturated (saturated (sum + 1) + cost)
