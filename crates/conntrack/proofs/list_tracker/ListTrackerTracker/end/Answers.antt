use Rattle.std.proofs.Common.{arith}
use Rattle.conntrack.proofs.Ids.{end_rules}
use Rattle.conntrack.proofs.Lists.{none_passes}
use Rattle.conntrack.proofs.list_tracker.ListTrackerTracker.end.Goals as goal

pub invariant_of-self : goal.invariant_of-self
invariant_of-self c = grind (arith, end_rules)

pub unreachable-requires : goal.unreachable-requires
unreachable-requires c = grind (arith, none_passes)
