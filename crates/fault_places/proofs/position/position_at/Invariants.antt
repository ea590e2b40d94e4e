use Rattle.std.proofs.Common.{◌+◌, ◌≤◌}
use Rattle.fault_places.proofs.position.position_at.Given as goal

abbrev pub invariant-loop-at : goal.invariant-loop-at
invariant-loop-at l = record {
  start : l.start ≤ l.at;
  line : l.line ≤ l.at + 1;
}
