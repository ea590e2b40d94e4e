use Rattle.std.proofs.Common.{drop}
use Rattle.rule_names.proofs.Names.{list_any, ◌≡◌}
use Rattle.rule_names.specs.steps.NameFaults.{table_has_fault}
use Rattle.rule_names.proofs.name_faults.some_table_has_fault.Given as goal

-- the result is that for the remaining tables
abbrev pub invariant-loop-table : goal.invariant-loop-table
invariant-loop-table l = list_any (table_has_fault l.fault) (drop l.table-index l.names) ≡ list_any (table_has_fault l.fault) l.names
