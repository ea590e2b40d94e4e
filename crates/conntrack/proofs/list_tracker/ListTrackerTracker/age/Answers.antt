use Rattle.std.proofs.Common.{arith}
use Rattle.conntrack.proofs.Ids.{end_rules, found_by_id, has_id-found, length-without}
use Rattle.conntrack.proofs.Lists.{filter_where_none}
use Rattle.conntrack.proofs.Lookups.{filter-without_first}
use Rattle.conntrack.proofs.list_tracker.ListTrackerTracker.age.Goals as goal

pub returns-clause-some : goal.returns-clause-some
returns-clause-some c =
    let distinct = c.args.self.now.distinct in
    let was = c.in_ok-expired.was in
    grind (arith, c.deref.ensures.value, c.find.ensures, was, c.aged.ensures, c.take_out.ensures.items, found_by_id, filter-without_first, distinct)

pub invariant_of-self : goal.invariant_of-self
invariant_of-self c = grind (arith, end_rules)

pub returns-in_err-expired-clause-none : goal.returns-in_err-expired-clause-none
returns-in_err-expired-clause-none c = grind (arith, filter_where_none)

pub returns-clause-fewer : goal.returns-clause-fewer
returns-clause-fewer c = grind (arith, has_id-found, length-without)
