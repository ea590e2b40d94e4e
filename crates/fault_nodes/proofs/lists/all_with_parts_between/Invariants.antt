use Rattle.std.proofs.Common.{◌≡◌, ◌≤◌, ◌++◌, map, drop}
use Rattle.fault_nodes.specs.ReadParts.{all_with_parts_between}
use Rattle.fault_nodes.proofs.lists.all_with_parts_between.Given as goal

-- The copies so far, and the parts that are left of the nodes from this one on.
abbrev pub invariant-loop-node : goal.invariant-loop-node
invariant-loop-node g l =
    (l.from ≤ l.fn.from) × (l.to ≤ l.fn.to)
    × (map g.T.PartNode.tree l.copies.items
    ++ all_with_parts_between g.T.PartNode.parts_of g.T.PartNode.cut l.from l.to
    (map g.T.PartNode.tree (drop l.node-index l.nodes))
    ≡ all_with_parts_between g.T.PartNode.parts_of g.T.PartNode.cut l.fn.from l.fn.to (map g.T.PartNode.tree l.nodes))
