use Rattle.chain_graph.proofs.Names.{graph_of, rows_of, take, targets_of, ◌≡◌}
use Rattle.chain_graph.proofs.targets.all_targets.Given as goal

abbrev pub invariant-loop-node : goal.invariant-loop-node
invariant-loop-node l = rows_of l.all.items ≡ targets_of (graph_of (take l.node-index l.nodes))
