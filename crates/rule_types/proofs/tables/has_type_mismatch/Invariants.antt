use Rattle.std.proofs.Common.{◌≡◌, drop}
use Rattle.std.specs.List.{list_any}
use Rattle.rule_types.specs.Types.{table_mismatches}
use Rattle.rule_types.proofs.tables.has_type_mismatch.Given as goal

-- the result is that for the remaining tables
abbrev pub invariant-loop-table : goal.invariant-loop-table
invariant-loop-table l = list_any table_mismatches (drop l.table-index l.names) ≡ list_any table_mismatches l.names
