use Rattle.std.proofs.Common.{◌≡◌, map, take}
use Rattle.nft_tree.proofs.tree_nodes.VecTreeNode.try_clone.Given as goal

-- The copies made so far have the trees of the nodes before this one.
abbrev pub invariant-loop-node : goal.invariant-loop-node
invariant-loop-node g l = map g.T.TreeNode.tree l.copies.items ≡ map g.T.TreeNode.tree (take l.node-index l.self.items)
