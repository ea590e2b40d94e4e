use Rattle.std.proofs.Common.{take}
use Rattle.rule_paths.specs.steps.Tables.{AreFindingsSoFar}
use Rattle.rule_paths.proofs.analysis.analyze.Given as goal

abbrev pub invariant-loop-table : goal.invariant-loop-table
invariant-loop-table l = AreFindingsSoFar (take l.table-index l.names) l.is_too_deep l.misplaces_nat l.cost l.costs.items l.depths.items
