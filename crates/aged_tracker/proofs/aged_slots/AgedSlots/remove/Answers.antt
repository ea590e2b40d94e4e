use Rattle.aged_tracker.proofs.Names.{IsIn-without, IsNumbered, IsSome, None, Relists, Some, ap, arith, eq-eqb, held_at, held_of, inl, last_by, ne_eqb, not}
use Rattle.aged_tracker.proofs.Names.{off, owner_of, refl, same_id, slots_of, sym, ◌∙◌, ◌≡◌}
use Rattle.aged_tracker.proofs.Index.{kept_if, kept_step}
use Rattle.aged_tracker.proofs.Lists.{IsIn-first, relists_then, relists_written}
use Rattle.aged_tracker.proofs.Order.{Writes, held_changed, numbered_after, rising_left, sets, table_after, writes_between}
use Rattle.conntrack.specs.ConntrackEntry.{without}
use Rattle.aged_tracker.proofs.aged_slots.AgedSlots.remove.Goals.{After-remove}
use Rattle.aged_tracker.proofs.aged_slots.AgedSlots.remove.Goals as goal

pub take_out-requires-clause-owned : goal.take_out-requires-clause-owned
take_out-requires-clause-owned c = grind arith

value : (c : After-remove) → slots_of c.args.self.now c.args.id.0 ≡ Some (held_of c.args.id.0 c.remove.result)
value c = grind arith

writes : (c : After-remove) → Writes c.args.self.now.slots c.remove.new.self c.args.id.0 None
writes c = writes_between _ _ _ _ c.args.id.0 None c.take_out.ensures.except_links c.remove.ensures.updates (λ k. refl)

emptied : (c : After-remove) → Relists c.take_out.new.slots c.remove.new.self c.take_out.new.queues c.take_out.new.queues c.args.id.0
    (owner_of c.take_out.new.slots c.args.id.0) (λ lists. lists)
emptied c =
    let free = c.take_out.ensures.relists.here in relists_written _ _ _ c.args.id.0 None c.remove.ensures.updates (sym free) (inl free)

gone : (c : After-remove) → IsSome (held_at c.remove.new.self c.args.id.0) → ⊥
gone c is = grind arith

numbered : (c : After-remove) → IsNumbered c.remove.new.self c.args.self.now.next_serial
numbered c = grind (arith, numbered_after, c.requires.table, writes, gone)

pub returns-clause-table : goal.returns-clause-table
returns-clause-table c =
    let at = (goal.at.returns-clause-table c).After-remove in
    let t = c.args.self.now in
    let table = c.requires.table in
    let key = c.args.id.0 in
    let relists = relists_then _ _ _ _ _ _ key _ _ (off key) (λ lists. lists) c.take_out.ensures.relists (emptied at) in
    table_after t table c.remove.new.self key None (writes at) c.take_out.new.queues _ (off key) c.take_out.new.oldest t.next_serial
    relists c.take_out.ensures.relists.here (rising_left t table _ key _ (writes at))
    (λ q range front is. c.take_out.ensures.oldest table.rings.0 table.rings.1 (λ q range front is d. table.oldest q range front is) q range front is
    ∙ sym (ap last_by ((sets t table _ key None (writes at)).others front
    (IsIn-without key front (table.rings.0 q) (IsIn-first (off key table.rings.0 q) front is)).1)))
    (numbered at) (table.few key c.requires.is_held)

pub returns-clause-held : goal.returns-clause-held
returns-clause-held c =
    let at = (goal.at.returns-clause-held c).After-remove in
    held_changed c.args.self.now c.requires.table _ c.args.id.0 None (writes at) (numbered at) (held_of c.args.id.0 c.remove.result) (value at)
    (kept_if (λ h. not (same_id c.args.id h))) (without c.args.id) refl (kept_step (λ h. not (same_id c.args.id h))) refl
    (λ x d. rw (ne_eqb x.id.0 c.args.id.0 d) refl) (rw (eq-eqb c.args.id.0 c.args.id.0 refl) refl) (λ is. absurd (gone at is))

pub returns-clause-value : goal.returns-clause-value
returns-clause-value c = value (goal.at.returns-clause-value c).After-remove ∙ ap Some (sym c.held.ensures)

pub returns-clause-slots : goal.returns-clause-slots
returns-clause-slots c = sets c.args.self.now c.requires.table _ c.args.id.0 None (writes (goal.at.returns-clause-slots c).After-remove)
