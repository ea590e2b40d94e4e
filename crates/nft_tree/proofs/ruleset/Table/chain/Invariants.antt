use Rattle.std.proofs.Common.{◌≡◌, slice_get, drop}
use Rattle.nft_tree.specs.TreeViews.{table_tree}
use Rattle.nft_tree.specs.TableItems.{chains_of}
use Rattle.nft_tree.proofs.Chains.{chains_among}
use Rattle.nft_tree.proofs.ruleset.Table.chain.Given as goal

-- The chain sought is chain number `left` of those from this item on.
abbrev pub invariant-loop-item : goal.invariant-loop-item
invariant-loop-item l = slice_get (chains_among (drop l.item-index l.self.items.items)) l.left
    ≡ slice_get (chains_of (table_tree l.self)) l.number
