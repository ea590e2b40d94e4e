use Rattle.conntrack.proofs.Names.{drop, take, touched_at, ◌++◌, ◌≡◌}
use Rattle.conntrack.proofs.list_tracker.touch_in.Given as goal

-- the entries so far are touched, and the rest are unchanged
abbrev pub invariant-loop-held : goal.invariant-loop-held
invariant-loop-held l = l.held-items ≡ touched_at l.id l.direction l.flags l.mark l.now
    (take l.held-index l.fn.conns.items) ++ drop l.held-index l.fn.conns.items
