use Rattle.aged_tracker.proofs.Names.{Bool, Option, arith, begun_with, cond, false, has_id, held_by, is_taken, not, true, ℕ, ◌≡◌}
use Rattle.aged_tracker.proofs.Index.{has_as, indexed_begun, not_both, taken_as}
use Rattle.aged_tracker.proofs.aged_tracker.AgedTrackerTracker.begin.Goals.{After-insert-id, After-insert_if_absent-is_new, After-note_packet}
use Rattle.aged_tracker.proofs.Order.{lasting}
use Rattle.aged_tracker.proofs.aged_tracker.AgedTrackerTracker.begin.Goals as goal

taken_if : (t : Bool) (o : Bool) (new b : Bool) → t ≡ o → new ≡ not o → new ≡ b → t ≡ not b
taken_if t o new b same told is = grind arith

taken : (c : After-insert_if_absent-is_new) (b : Bool) → c.insert_if_absent-is_new.result ≡ b
    → is_taken c.args.connection.reply (held_by c.self.inside.slots) ≡ not b
taken c b is = taken_if _ _ _ b (taken_as _ _ _ c.self.invariant.indexed c.args.connection.reply) c.insert_if_absent-is_new.ensures.absent is

fresh : (c : After-insert-id) → has_id c.insert-id.result (held_by c.self.inside.slots) ≡ false
fresh c = grind (arith, has_as, c.self.invariant.table, c.insert-id.ensures.free)

swapped : (o r : Bool) (x y : Option ℕ) → cond o x (cond r x y) ≡ cond r x (cond o x y)
swapped o r x y = grind arith

pub returns-then-not-is_new-clause-clash : goal.returns-then-not-is_new-clause-clash
returns-then-not-is_new-clause-clash c = grind (arith, c.self.view_is, taken, c.if-not-is_new.true)

pub invariant_of-self-2 : goal.invariant_of-self-2
invariant_of-self-2 c = record {
  table = c.insert-id.ensures.table;
  indexed = rw c.insert-id.ensures.held (indexed_begun _ _ _ c.self.invariant.indexed _
      (begun_with c.insert-id.result c.args.connection c.args.flags) (fresh (goal.at.invariant_of-self-2 c).After-insert-id)
      (rw (← c.self.view_is) at c.requires.free)
      (taken (goal.at.invariant_of-self-2 c).After-insert_if_absent-is_new true c.if-not-is_new.false)
      (λ q. grind (
        arith,
        c.insert.ensures.slots q,
        c.insert_if_absent-is_new.ensures.slots c.if-not-is_new.false q,
        c.insert-id.ensures.key,
        c.next_key-key.ensures.key,
        c.next_key-key.ensures.few,
        c.requires.room,
        c.self.view_is,
        swapped,
      )));
  lasting = lasting c.self.inside.limits c.insert-id.ensures.slots c.self.invariant.lasting c.note_packet.ensures.sooner c.note_packet.ensures.second;
  soon = omega (arith, c.note_packet.ensures.sooner, c.self.invariant.soon);
}

pub returns-clause-fresh : goal.returns-clause-fresh
returns-clause-fresh c = rw (← c.self.view_is) (fresh (goal.at.returns-clause-fresh c).After-insert-id)

pub returns-clause-clash : goal.returns-clause-clash
returns-clause-clash c = grind (arith, c.self.view_is, taken, c.if-not-is_new.false, not_both)
