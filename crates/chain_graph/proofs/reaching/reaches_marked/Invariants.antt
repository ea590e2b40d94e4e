use Rattle.chain_graph.proofs.Names.{Contains, false, get_or, graph_of, length, take, ℕ, ◌↔◌, ◌≡◌}
use Rattle.std.specs.Prelude.{IsTrue}
use Rattle.chain_graph.specs.Measures.{ReachesMarked}
use Rattle.chain_graph.proofs.reaching.reaches_marked.Given as goal

abbrev pub invariant-loop-node : goal.invariant-loop-node
invariant-loop-node l = record {
  long : length l.reaching.items ≡ length l.nodes;
  known : (c : ℕ) → Contains (take l.node-index l.order) c → IsTrue (get_or l.reaching.items c false) ↔ ReachesMarked (graph_of l.nodes) l.marked c;
}
