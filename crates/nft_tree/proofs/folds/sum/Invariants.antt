use Rattle.std.proofs.Common.{◌≡◌, ℕ, ◌^◌, ◌-◌, map, take, min}
use Rattle.std.specs.List.{sum_by}
use Rattle.nft_tree.proofs.folds.sum.Given as goal

-- The sum over the items before this one.
abbrev pub invariant-loop-item : goal.invariant-loop-item
invariant-loop-item g l =
    (weight_of : g.T.TreeNode.Tree → ℕ)
    → ((x : _) (n : ℕ) → goal.F-post g l.fn.weight x n
    → n ≡ min (weight_of (g.T.TreeNode.tree x.now)) (2 ^ 64 - 1))
    → l.sum ≡ min (sum_by weight_of (map g.T.TreeNode.tree (take l.item-index l.items))) (2 ^ 64 - 1)
