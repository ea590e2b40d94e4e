use Rattle.std.proofs.Common.{◌-◌, ◌≤◌}
use Rattle.fault_spans.proofs.spans.Guess.last_with_fault.Given as goal

abbrev pub invariant-loop-count : goal.invariant-loop-count
invariant-loop-count l = 1 ≤ l.count

abbrev pub decreases-loop-count : goal.decreases-loop-count
decreases-loop-count l = l.total - l.count
