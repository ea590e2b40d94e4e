use Rattle.conntrack.specs.TableEntries.{IsNoneLater}
use Rattle.crate_tests.proofs.slot_counts.fill.Given as goal

abbrev pub invariant-loop-port : goal.invariant-loop-port
invariant-loop-port g l = IsNoneLater 0 l.tracker.held
