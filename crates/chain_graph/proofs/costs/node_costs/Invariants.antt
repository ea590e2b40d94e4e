use Rattle.chain_graph.proofs.Names.{Contains, get_or, graph_of, length, saturated, take, ℕ, ◌≡◌}
use Rattle.chain_graph.specs.Measures.{IsCost}
use Rattle.chain_graph.proofs.costs.node_costs.Given as goal

abbrev pub invariant-loop-node : goal.invariant-loop-node
invariant-loop-node l = record {
  long : length l.costs.items ≡ length l.nodes;
  known : (cost : ℕ → ℕ) → IsCost (graph_of l.nodes) cost → (c : ℕ) → Contains (take l.node-index l.order) c → get_or l.costs.items c 0 ≡ saturated (cost c);
}
