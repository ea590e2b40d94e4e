use Rattle.aged_tracker.proofs.Names.{ConntrackEntry, IsNumbered, Relists, SameBy, Slab, Slot, Some, Updates, ap, arith, cond, eq-eqb, except_links, get}
use Rattle.aged_tracker.proofs.Names.{held_at, held_of, inl, inr, last_at, last_by, link_by, ne_eqb, off, option_cases, option_map, owner_by, owner_of, pushed}
use Rattle.aged_tracker.proofs.Names.{queue_of, refl, same_id, serial_by, sym, touched, touched_at, updated, ◌∙◌, ◌≡◌}
use Rattle.aged_tracker.proofs.Lists.{held_aside, oldest_as, relists_then, relists_written, some_of}
use Rattle.aged_tracker.proofs.Order.{Writes, held_changed, least, queue_of-range, rising_left, rising_pushed, sets, slot_by, table_after}
use Rattle.aged_tracker.proofs.Order.{writes_between}
use Rattle.aged_tracker.proofs.aged_slots.AgedSlots.touch.Goals.{After-touch-queue}
use Rattle.aged_tracker.proofs.aged_slots.AgedSlots.touch.Goals as goal

slot : (c : After-touch-queue) → (s : Slot) × (get c.args.self.now.slots c.args.id.0 ≡ Some s)
slot c = some_of _ (slot_by c.args.self.now.slots c.args.id.0 c.requires.is_held)

abbrev entry : After-touch-queue → ConntrackEntry
entry c = held_of c.args.id.0 (slot c).0

abbrev after : After-touch-queue → Slot
after c = updated (touched c.args.direction c.args.flags c.args.mark c.args.now (entry c)) (slot c).0

wrote : (c : After-touch-queue) → Updates c.args.self.now.slots c.touch-queue.new.self c.args.id.0 (Some (after c))
wrote c = rw (slot c).1 at c.touch-queue.ensures.slots

same : (c : After-touch-queue) → Relists c.args.self.now.slots c.touch-queue.new.self c.args.self.now.queues c.args.self.now.queues
    c.args.id.0 (owner_of c.args.self.now.slots c.args.id.0) (λ lists. lists)
same c = relists_written _ _ _ c.args.id.0 (Some (after c)) (wrote c) (sym (ap owner_by (slot c).1)) (inr (sym (ap link_by (slot c).1)))

pub requeue-requires-clause-few : goal.requeue-requires-clause-few
requeue-requires-clause-few c = c.requires.table.few c.args.id.0 c.requires.is_held

pub requeue-requires-clause-rings : goal.requeue-requires-clause-rings
requeue-requires-clause-rings c =
    (c.requires.table.rings.0, (same (goal.at.requeue-requires-clause-rings c).After-touch-queue).rings _ c.requires.table.rings.1)

pub requeue-requires-clause-owned : goal.requeue-requires-clause-owned
requeue-requires-clause-owned c =
    let at = (goal.at.requeue-requires-clause-owned c).After-touch-queue in
    let owner = (same at).here ∙ c.requires.table.owners c.args.id.0 ∙ ap (λ o. option_map queue_of (option_map (held_of c.args.id.0) o)) (slot at).1 in
    (queue_of (entry at), (queue_of-range (entry at), owner))

pub note_front-requires-clause-few : goal.note_front-requires-clause-few
note_front-requires-clause-few c = c.requires.table.few c.args.id.0 c.requires.is_held

writes : (c : After-touch-queue) (new : Slab Slot) → SameBy except_links c.touch-queue.new.self new
    → Writes c.args.self.now.slots new c.args.id.0 (Some (after c))
writes c new = writes_between c.args.self.now.slots _ c.touch-queue.new.self new c.args.id.0 (Some (after c)) (λ k. refl) (wrote c)

numbered : (c : After-touch-queue) (new : Slab Slot) → SameBy except_links c.touch-queue.new.self new → IsNumbered new c.args.self.now.next_serial
numbered c new same = grind arith

pub returns-clause-table : goal.returns-clause-table
returns-clause-table c =
    let at = (goal.at.returns-clause-table c).After-touch-queue in
    let ws = writes at c.requeue.new.slots c.requeue.ensures.except_links in
    let t = c.args.self.now in
    let table = c.requires.table in
    let key = c.args.id.0 in
    let relists = relists_then _ _ _ _ _ _ key _ _ (λ lists. lists) (λ lists. pushed key c.touch-queue.result.0 (off key lists)) (same at)
    c.requeue.ensures.relists in
    let rings = (same at).rings table.rings.0 table.rings.1 in
    let oldest = oldest_as key (last_at (held_at c.touch-queue.new.self)) (last_at (held_at c.requeue.new.slots)) _ _
    (λ k d. ap last_by (held_aside c.touch-queue.new.self c.requeue.new.slots c.requeue.ensures.except_links k))
    (c.requeue.ensures.oldest table.rings.0 rings (oldest_as key (last_at (held_at t.slots)) _ _ _
    (λ k d. ap (λ o. last_by (option_map (held_of k) o)) ((wrote at).others k d)) (λ q range front is d. table.oldest q range front is))) in
    let last : last_at (held_at c.requeue.new.slots) key ≡ c.args.now = ap last_by (sets t table _ key _ ws).changed in
    table_after t table c.requeue.new.slots key (Some (after at)) ws c.requeue.new.queues _ _ c.note_front.new.oldest _
    relists (ap Some (rw (slot at).1 at c.touch-queue.ensures.queue))
    (rising_pushed t table _ key _ ws c.touch-queue.result.0 (off key table.rings.0) (rising_left t table _ key _ ws)
    (least t table _ key _ ws c.args.now last c.requires.later))
    (c.note_front.ensures c.requeue.new.slots _ _ (relists.rings table.rings.0 table.rings.1) relists.here last oldest)
    (numbered at c.requeue.new.slots c.requeue.ensures.except_links) (table.few key c.requires.is_held)

pub returns-clause-held : goal.returns-clause-held
returns-clause-held c =
    let at = (goal.at.returns-clause-held c).After-touch-queue in
    held_changed c.args.self.now c.requires.table _ c.args.id.0 _ (writes at c.requeue.new.slots c.requeue.ensures.except_links)
    (numbered at c.requeue.new.slots c.requeue.ensures.except_links) (entry at) (ap (option_map (held_of c.args.id.0)) (slot at).1)
    (option_map (λ h. cond (same_id c.args.id h) (touched c.args.direction c.args.flags c.args.mark c.args.now h) h))
    (touched_at c.args.id c.args.direction c.args.flags c.args.mark c.args.now) refl
    (λ o held. elim (option_cases o) [ inl none ↦ rw none refl | inr x ↦ rw x.1 refl ]) refl
    (λ x d. rw (ne_eqb x.id.0 c.args.id.0 d) refl) (rw (eq-eqb c.args.id.0 c.args.id.0 refl) refl) (λ is. sym (ap serial_by (slot at).1))

pub returns-clause-slots : goal.returns-clause-slots
returns-clause-slots c =
    let at = (goal.at.returns-clause-slots c).After-touch-queue in
    rw (ap (option_map (held_of c.args.id.0)) (slot at).1)
    (sets c.args.self.now c.requires.table _ c.args.id.0 _ (writes at c.requeue.new.slots c.requeue.ensures.except_links))
