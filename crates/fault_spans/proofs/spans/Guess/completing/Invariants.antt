use Rattle.std.proofs.Common.{◌-◌, ◌≤◌}
use Rattle.fault_spans.proofs.spans.Guess.completing.Given as goal

abbrev pub invariant-loop-end : goal.invariant-loop-end
invariant-loop-end l = l.start ≤ l.end

abbrev pub decreases-loop-end : goal.decreases-loop-end
decreases-loop-end l = l.end - l.start
