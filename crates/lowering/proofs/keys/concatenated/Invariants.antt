use Rattle.lowering.proofs.Names.{drop, join, map, parts, value_tree, ◌≡◌}
use Rattle.lowering.proofs.Widths.{FitsIn128Bits}
use Rattle.lowering.proofs.keys.concatenated.Given as goal

-- the number so far, with the values that are left behind it, gives the whole, in at most 128 bits
abbrev pub invariant-loop-part : goal.invariant-loop-part
invariant-loop-part l = FitsIn128Bits l.number (drop l.part l.kinds)
    × (join l.number (parts l.network (drop l.part l.kinds) (map value_tree (drop l.part l.values)))
    ≡ join 0 (parts l.network l.kinds (map value_tree l.values)))
