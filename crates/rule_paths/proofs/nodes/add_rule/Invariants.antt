use Rattle.std.proofs.Common.{◌≡◌, ◌++◌, map, take}
use Rattle.nft_tree.specs.TreeViews.{statement}
use Rattle.chain_graph.specs.Nodes.{statements_of}
use Rattle.rule_paths.specs.Paths.{statement_calls}
use Rattle.rule_paths.specs.steps.Index.{index_of, numbered_call}
use Rattle.rule_paths.proofs.nodes.add_rule.Given as goal

abbrev pub invariant-loop-stmt : goal.invariant-loop-stmt
invariant-loop-stmt l = statements_of l.statements.items ≡ statements_of l.initial.statements.items
    ++ map (map (numbered_call (index_of l.names)))
    (map statement_calls (map statement (take l.stmt-index l.rule.statements.items)))
