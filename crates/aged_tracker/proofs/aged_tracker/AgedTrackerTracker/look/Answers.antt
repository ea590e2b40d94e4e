use Rattle.std.proofs.Common.{arith}
use Rattle.aged_tracker.proofs.aged_tracker.AgedTrackerTracker.look.Goals as goal

pub returns-clause-history : goal.returns-clause-history
returns-clause-history c history s = grind arith
