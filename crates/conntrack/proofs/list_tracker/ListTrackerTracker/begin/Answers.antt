use Rattle.std.proofs.Common.{arith}
use Rattle.conntrack.proofs.Ids.{begin_rules, has_id-below}
use Rattle.conntrack.proofs.list_tracker.ListTrackerTracker.begin.Goals as goal

pub invariant_of-self : goal.invariant_of-self
invariant_of-self c = grind (arith, begin_rules)

pub returns-clause-fresh : goal.returns-clause-fresh
returns-clause-fresh c = grind (arith, has_id-below)
