use Rattle.aged_tracker.proofs.Names.{ConntrackEntry, IsNumbered, Relists, Sets, Some, add-one, ap, arith, begun_with, held_at, held_of, inl, last_at}
use Rattle.aged_tracker.proofs.Names.{last_by, owner_by, owner_of, pushed, queue_by, queue_of, refl, slots_of, sym, ◌+◌, ◌∙◌, ◌≡◌}
use Rattle.aged_tracker.proofs.Lists.{oldest_as, oldest_pushed, relists_then, relists_written}
use Rattle.aged_tracker.proofs.Order.{Writes, held_begun, least, numbered_after, rising_free, rising_pushed, sets, table_after, writes_between}
use Rattle.aged_tracker.proofs.aged_slots.AgedSlots.insert.Goals.{After-fill-key, After-push_back}
use Rattle.aged_tracker.proofs.aged_slots.AgedSlots.insert.Goals as goal

made : (c : After-push_back) → held_of c.fill-key.result c.new.result ≡ begun_with (record { 0 = c.fill-key.result }) c.args.connection c.args.flags
made c =
    c.new.ensures.held c.fill-key.result
    ∙ ap (λ (h : ConntrackEntry). record h { id = record { 0 = c.fill-key.result } }) c.begun-held.ensures

-- it is in no list first
filled : (c : After-fill-key) → Relists c.args.self.now.slots c.fill-key.new.self c.args.self.now.queues c.args.self.now.queues
    c.fill-key.result (owner_of c.args.self.now.slots c.fill-key.result) (λ lists. lists)
filled c =
    let free = ap owner_by c.fill-key.ensures.free in
    relists_written _ _ _ c.fill-key.result _ c.fill-key.ensures.updates (c.new.ensures.unlisted ∙ sym free) (inl free)

pub push_back-requires-clause-rings : goal.push_back-requires-clause-rings
push_back-requires-clause-rings c =
    (c.requires.table.rings.0, (filled (goal.at.push_back-requires-clause-rings c).After-fill-key).rings _ c.requires.table.rings.1)

writes : (c : After-push_back) → Writes c.args.self.now.slots c.push_back.new.slots c.fill-key.result (Some c.new.result)
writes c = writes_between c.args.self.now.slots _ _ _ c.fill-key.result _ (λ k. refl) c.fill-key.ensures.updates c.push_back.ensures.except_links

begun : (c : After-push_back) → Sets (slots_of c.args.self.now) (held_at c.push_back.new.slots) c.fill-key.result
    (Some (held_of c.fill-key.result c.new.result))
begun c = sets c.args.self.now c.requires.table _ c.fill-key.result _ (writes c)

numbered : (c : After-push_back) → IsNumbered c.push_back.new.slots (c.args.self.now.next_serial + 1)
numbered c =
    let number = c.new.ensures.serial in
    numbered_after c.args.self.now c.requires.table _ c.fill-key.result _ (writes c) _ (omega arith)
    (λ is. (omega (arith, number), λ k some e. absurd (omega (arith, e, number, c.requires.table.numbered.below k some))))

pub returns-clause-table : goal.returns-clause-table
returns-clause-table c =
    let at = (goal.at.returns-clause-table c).After-push_back in
    let t = c.args.self.now in
    let table = c.requires.table in
    let key = c.fill-key.result in
    let known = (goal.at.returns-clause-table c).After-fill-key in
    let relists = relists_then _ _ _ _ _ _ key _ _ (λ lists. lists) (pushed key c.queue_by-queue.result) (filled known)
    c.push_back.ensures.relists in
    let to : c.queue_by-queue.result ≡ queue_of (held_of key c.new.result) = c.queue_by-queue.ensures.queue
    ∙ ap (queue_by c.begun-held.result.original.kind) c.phase.ensures ∙ ap queue_of (sym (c.new.ensures.held c.fill-key.result)) in
    let last : last_at (held_at c.push_back.new.slots) key ≡ c.args.connection.last =
    ap last_by (begun at).changed ∙ ap (λ (h : ConntrackEntry). h.last) (made at) in
    let oldest = oldest_pushed key c.queue_by-queue.result _ table.rings.0 t.oldest
    (oldest_as key (last_at (held_at t.slots)) (last_at (held_at c.push_back.new.slots)) table.rings.0 t.oldest
    (λ k d. ap last_by ((begun at).others k d)) (λ q range front is d. table.oldest q range front is)) in
    table_after t table c.push_back.new.slots key (Some c.new.result) (writes at) c.push_back.new.heads _ _ c.note_front.new.oldest
    _ relists (ap Some to)
    (rising_pushed t table _ key _ (writes at) c.queue_by-queue.result table.rings.0
    (rising_free t table _ key _ (writes at) c.fill-key.ensures.free) (least t table _ key _ (writes at) c.args.connection.last last c.requires.later))
    (c.note_front.ensures c.push_back.new.slots _ _ (relists.rings table.rings.0 table.rings.1) relists.here last oldest)
    (numbered at) c.push_back.ensures.few

pub returns-clause-held : goal.returns-clause-held
returns-clause-held c = grind (arith, add-one, held_begun, c.requires.table, writes, numbered, c.fill-key.ensures.free, made)

pub returns-clause-slots : goal.returns-clause-slots
returns-clause-slots c = let at = (goal.at.returns-clause-slots c).After-push_back in rw (made at) at (begun at)
