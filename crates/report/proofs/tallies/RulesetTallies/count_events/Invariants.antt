-- what the events that are left make of the tallies so far
use Rattle.report.proofs.Imports.{counted_all, drop, ◌≡◌}
use Rattle.report.proofs.tallies.RulesetTallies.count_events.Given as goal

abbrev pub invariant-loop-event : goal.invariant-loop-event
invariant-loop-event l = counted_all l.length (drop l.event-index l.events) l.self
    ≡ counted_all l.length l.events l.initial.self
