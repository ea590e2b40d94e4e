use Rattle.std.proofs.Common.{◌≡◌, ◌≤◌, ◌++◌, map, drop}
use Rattle.nft_tree.specs.TreeViews.{table_tree}
use Rattle.fault_nodes.specs.ReadParts.{first_declarations}
use Rattle.fault_nodes.proofs.reading.first_declarations.Given as goal

-- The copies so far, and the declarations that are left of the tables from this one on.
abbrev pub invariant-loop-table : goal.invariant-loop-table
invariant-loop-table l =
    (l.left ≤ l.count)
    × (map table_tree l.copies.items ++ first_declarations l.left (map table_tree (drop l.table-index l.tables))
    ≡ first_declarations l.count (map table_tree l.tables))
