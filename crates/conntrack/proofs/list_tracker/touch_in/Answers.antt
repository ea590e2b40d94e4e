use Rattle.conntrack.proofs.Names.{ConntrackEntry, arith, get_or_default, if◌then◌else◌, map_over_more, same_id, touched}
use Rattle.conntrack.proofs.list_tracker.touch_in.Goals as goal

pub loop-held-preserved : goal.loop-held-preserved
loop-held-preserved c =
    rw c.touch_if.ensures (map_over_more (λ (h : ConntrackEntry). if same_id c.args.id h then touched c.args.direction
    c.args.flags c.args.mark c.args.now h else h)
    c.args.conns.now.items c.loop-held.held-items c.loop-held.held-index _
    (rw c.deref_mut-held-items.ensures.value at c.loop-held-test.true) c.loop-held.invariant
    (get_or_default c.loop-held.held-items c.loop-held.held-index _ _ (omega arith)))
