use Rattle.std.proofs.Common.{◌≡◌, map, take}
use Rattle.nft_tree.specs.TreeViews.{pair_tree}
use Rattle.chain_graph.specs.Nodes.{call_of}
use Rattle.rule_paths.specs.Paths.{pair_calls}
use Rattle.rule_paths.specs.steps.Index.{index_of, numbered_call}
use Rattle.rule_paths.proofs.nodes.pair_edges.Given as goal

abbrev pub invariant-loop-pair : goal.invariant-loop-pair
invariant-loop-pair l = map call_of l.edges.items ≡ map (numbered_call (index_of l.names)) (pair_calls (map pair_tree (take l.pair-index l.pairs)))
