use Rattle.chain_graph.proofs.Names.{Contains, get_or, graph_of, length, take, ℕ, ◌≡◌}
use Rattle.chain_graph.specs.Measures.{IsDepth}
use Rattle.chain_graph.proofs.depths.node_depths.Given as goal

abbrev pub invariant-loop-node : goal.invariant-loop-node
invariant-loop-node l = record {
  long : length l.depths.items ≡ length l.nodes;
  known : (c : ℕ) → Contains (take l.node-index l.order) c → IsDepth (graph_of l.nodes) c (get_or l.depths.items c 0);
}
