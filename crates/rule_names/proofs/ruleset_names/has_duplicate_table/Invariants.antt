use Rattle.rule_names.proofs.Names.{HasDuplicate, map, table_names, table_tree, take, ◌≡◌}
use Rattle.rule_names.proofs.ruleset_names.has_duplicate_table.Given as goal

-- the names of the tables so far, which are distinct
abbrev pub invariant-loop-table : goal.invariant-loop-table
invariant-loop-table l = (l.names ≡ table_names l.family (map table_tree (take l.table-index l.tables))) × (HasDuplicate l.names → ⊥)
