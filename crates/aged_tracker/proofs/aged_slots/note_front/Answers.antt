use Rattle.aged_tracker.proofs.Names.{IsRings, Link, List, Lists, Slab, Slot, Some, ap, arith, cases_eq, get_or, get_or-set_other, get_or-set_same, inl, inr}
use Rattle.aged_tracker.proofs.Names.{is_first, length, owner_of, rules, same_Some, set, slice_get, sym, ℕ, ◌<◌, ◌∙◌, ◌≡◌}
use Rattle.aged_tracker.proofs.Index.{not_both}
use Rattle.aged_tracker.proofs.Lists.{first_is, front_owned, is_first-of}
use Rattle.aged_tracker.proofs.aged_slots.note_front.Goals as goal

-- a slot is the front of its queue alone
its_queue : (slots : Slab Slot) (heads : List Link) (lists : Lists) (key list : ℕ) → IsRings slots heads lists → owner_of slots key ≡ Some list
    → (q front : ℕ) → q < 5 → slice_get (lists q) 0 ≡ Some front → front ≡ key → q ≡ list
its_queue slots heads lists key list rings owner q front range is same =
    same_Some q list (sym (front_owned slots heads lists rings q front range is) ∙ ap (owner_of slots) same ∙ owner)

pub returns-then-is_first : goal.returns-then-is_first
returns-then-is_first c slots lists last rings owner at oldest q range front is =
    let long : length c.args.oldest.now ≡ 5 = search rules in
    elim (cases_eq q c.args.queue) [
      | inl e ↦
          let same : is_first c.args.key (lists q) ≡ is_first c.args.key (lists c.args.queue) = ap (λ l. is_first c.args.key (lists l)) e in
          let first = first_is c.args.key (lists q) front is (same ∙ sym (c.is_first.ensures slots lists rings) ∙ c.if-is_first.true) in
          ap (λ j. get_or (set c.args.oldest.now c.args.queue c.args.moment) j 0) e
          ∙ get_or-set_same c.args.oldest.now c.args.queue c.args.moment 0 (omega (arith, long, c.requires.range))
          ∙ sym at ∙ ap last (sym first)
      | inr n ↦ get_or-set_other c.args.oldest.now c.args.queue q c.args.moment 0 n
          ∙ oldest q range front is (λ e. n (its_queue slots c.args.queues.now lists c.args.key c.args.queue rings owner q front range is e))
    ]

pub returns-else-is_first : goal.returns-else-is_first
returns-else-is_first c slots lists last rings owner at oldest q range front is =
    oldest q range front is (λ e.
    let here = its_queue slots c.args.queues.now lists c.args.key c.args.queue rings owner q front range is e in
    not_both _ (is_first-of c.args.key (lists c.args.queue) (ap (λ l. slice_get (lists l) 0) (sym here) ∙ is ∙ ap Some e))
    (sym (c.is_first.ensures slots lists rings) ∙ c.if-is_first.false))
