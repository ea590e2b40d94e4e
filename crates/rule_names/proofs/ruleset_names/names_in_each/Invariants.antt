use Rattle.rule_names.proofs.Names.{map, table_tree, take}
use Rattle.rule_names.specs.steps.Table.{AreIndexed}
use Rattle.rule_names.proofs.ruleset_names.names_in_each.Given as goal

-- the tables so far
abbrev pub invariant-loop-table : goal.invariant-loop-table
invariant-loop-table l = AreIndexed (map table_tree (take l.table-index l.tables)) l.names.items
