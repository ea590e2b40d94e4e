use Rattle.std.proofs.Common.{◌≡◌, ◌++◌, map, take}
use Rattle.nft_tree.specs.TreeViews.{chain_tree}
use Rattle.chain_graph.specs.Nodes.{graph_of}
use Rattle.rule_paths.specs.steps.Index.{chain_at}
use Rattle.rule_paths.proofs.nodes.add_chains.Given as goal

abbrev pub invariant-loop-chain : goal.invariant-loop-chain
invariant-loop-chain l = graph_of l.nodes.items ≡ graph_of l.initial.nodes.items
    ++ map (chain_at l.names) (map (λ c. chain_tree c.now) (take l.chain-index l.chains))
