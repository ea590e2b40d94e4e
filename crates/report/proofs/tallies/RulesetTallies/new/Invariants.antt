-- the tallies so far
use Rattle.report.proofs.Imports.{All, fresh_table, map, table_tree, take, ◌≡◌}
use Rattle.report.proofs.Fresh.{FitsStart}
use Rattle.report.proofs.tallies.RulesetTallies.new.Given as goal

abbrev pub invariant-loop-table : goal.invariant-loop-table
invariant-loop-table l = record {
  are : l.tables.items ≡ map fresh_table (map table_tree (take l.table-index l.rules.tables.items));
  fit : All (All (All (All FitsStart))) l.tables.items;
}
