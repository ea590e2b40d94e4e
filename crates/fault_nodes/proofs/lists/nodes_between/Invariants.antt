use Rattle.std.proofs.Common.{◌≡◌, map, take}
use Rattle.fault_nodes.proofs.lists.nodes_between.Given as goal

-- The copies so far have the models of the nodes before this one.
abbrev pub invariant-loop-node : goal.invariant-loop-node
invariant-loop-node g l =
    map g.T.TreeNode.tree l.copies.items ≡ map g.T.TreeNode.tree (take l.node-index l.node-items)
