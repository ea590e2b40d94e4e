use Rattle.std.proofs.Common.{◌≡◌, ℕ, ◌+◌, ◌-◌, ◌^◌, map, min, take}
use Rattle.std.specs.List.{sum_by}
use Rattle.fault_nodes.proofs.locating.locate.Given as goal

-- The position is past the nodes before this one, by the rest.
abbrev pub invariant-loop-index : goal.invariant-loop-index
invariant-loop-index g l =
    (weight_of : g.T.TreeNode.Tree → ℕ)
    → ((x : _) (n : ℕ) → goal.F-post g l.fn.weight x n
    → n ≡ min (weight_of (g.T.TreeNode.tree x.now)) (2 ^ 64 - 1))
    → sum_by weight_of (take l.index (map g.T.TreeNode.tree l.nodes)) + l.rest ≡ l.position
