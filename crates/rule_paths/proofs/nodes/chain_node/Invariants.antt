use Rattle.std.proofs.Common.{◌≡◌, map, take}
use Rattle.std.specs.Prelude.{flat_map}
use Rattle.nft_tree.specs.TreeViews.{rule_tree}
use Rattle.chain_graph.specs.Nodes.{statements_of}
use Rattle.rule_paths.specs.Paths.{statement_calls}
use Rattle.rule_paths.specs.steps.Index.{index_of, numbered_call}
use Rattle.rule_paths.proofs.nodes.chain_node.Given as goal

abbrev pub invariant-loop-rule : goal.invariant-loop-rule
invariant-loop-rule l = statements_of l.statements.items ≡ map (map (numbered_call (index_of l.names)))
    (map statement_calls (flat_map (λ r. r.statements) (map rule_tree (take l.rule-index l.chain.rules.items))))
