-- The call graph by index of its nodes. (own)
use Rattle.std.specs.Prelude.{ℕ, ◌<◌, List, [], get_or, map, Contains, Vec}
use Rattle.std.specs.declared.alloc.Global.{Global}
use Rattle.chain_graph.specs.Graph.{Call, NodeTree, chain, verdict_map, calls_in}
use Rattle.chain_graph.specs.declared.node.Edge.{Edge}
use Rattle.chain_graph.specs.declared.node.Node.{Node}
use Rattle.chain_graph.specs.declared.node.Node.TheVariants.{Chain, Map}

abbrev pub Graph : Type 0
Graph = List (NodeTree ℕ)

abbrev pub call_of : Edge → Call ℕ
call_of e = record { to = e.to; is_jump = e.is_jump }

abbrev pub statements_of : List (Vec Edge Global) → List (List (Call ℕ))
statements_of statements = map (λ s. map call_of s.items) statements

abbrev pub node_of : Node → NodeTree ℕ
node_of (Chain statements) = chain (statements_of statements.items)
node_of (Map calls) = verdict_map (map call_of calls.items)

abbrev pub graph_of : List Node → Graph
graph_of nodes = map node_of nodes

-- the node with index a
abbrev pub node_at : Graph → ℕ → NodeTree ℕ
node_at g a = get_or g a (chain [])

-- the calls of the node with index a
abbrev pub calls_of : Graph → ℕ → List (Call ℕ)
calls_of g a = calls_in (node_at g a)

abbrev pub Calls : Graph → ℕ → Call ℕ → Type 0
Calls g a e = Contains (calls_of g a) e

-- all calls are to nodes with indices below n
abbrev pub InRange : Graph → ℕ → Type 0
InRange g n = (a : ℕ) (e : Call ℕ) → Calls g a e → e.to < n

-- the targets of each node
abbrev pub targets_of : Graph → List (List ℕ)
targets_of g = map (λ n. map (λ e. e.to) (calls_in n)) g
