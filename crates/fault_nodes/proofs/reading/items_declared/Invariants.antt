use Rattle.std.proofs.Common.{◌≡◌, map, take}
use Rattle.nft_tree.specs.TreeViews.{item_tree}
use Rattle.fault_nodes.specs.ReadParts.{item_between}
use Rattle.fault_nodes.proofs.reading.items_declared.Given as goal

-- The copies so far are the items before this one, without their parts.
abbrev pub invariant-loop-item : goal.invariant-loop-item
invariant-loop-item l =
    map item_tree l.copies.items ≡ map (λ item. item_between 0 0 (item_tree item)) (take l.item-index l.item-items)
