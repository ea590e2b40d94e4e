use Rattle.std.proofs.Common.{take, map, ◌++◌, ◌≡◌}
use Rattle.rule_sets.proofs.Advancing.{met_at}
use Rattle.rule_sets.proofs.progress.Progress.finish.Given as goal

abbrev pub invariant-loop-state : goal.invariant-loop-state
invariant-loop-state l = l.ends.items ≡ l.initial.ends.items ++ map met_at (take l.state-index l.state-items)
