use Rattle.std.proofs.Common.{◌≡◌}
use Rattle.explanations.proofs.Finding.{has_from}
use Rattle.explanations.proofs.explanation.in_table.Given as goal

abbrev pub invariant-loop-row : goal.invariant-loop-row
invariant-loop-row l = has_from l.table 0 l.code ≡ has_from l.table l.row-index l.code
