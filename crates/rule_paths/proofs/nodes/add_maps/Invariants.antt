use Rattle.std.proofs.Common.{◌≡◌, ◌++◌, map, take}
use Rattle.nft_tree.specs.TreeViews.{map_tree}
use Rattle.chain_graph.specs.Nodes.{graph_of}
use Rattle.rule_paths.specs.steps.Index.{map_at}
use Rattle.rule_paths.proofs.nodes.add_maps.Given as goal

abbrev pub invariant-loop-map : goal.invariant-loop-map
invariant-loop-map l = graph_of l.nodes.items ≡ graph_of l.initial.nodes.items ++ map (map_at l.names) (map (λ m. map_tree m.now) (take l.map-index l.maps))
