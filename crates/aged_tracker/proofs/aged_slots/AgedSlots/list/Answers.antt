use Rattle.aged_tracker.proofs.Names.{IsNonDecreasingBy-from_sort_by_key, YieldsList-from_map, YieldsList-from_slice, items_from_collect, rules, sym}
use Rattle.aged_tracker.proofs.Order.{listed_order}
use Rattle.aged_tracker.proofs.aged_slots.AgedSlots.list.Goals as goal

pub returns-clause-list : goal.returns-clause-list
returns-clause-list c =
    let sorted = listed_order c.args.self.now.slots c.deref.result.now c.args.self.now.next_serial c.requires.numbered
    (rw (c.deref.ensures.value, sym c.in_ok-order.ensures.numbered) c.sort_unstable_by_key.ensures.permutation)
    (rw c.deref.ensures.value (IsNonDecreasingBy-from_sort_by_key (λ q. q.0) _ c.sort_unstable_by_key.ensures.sorted (λ a r q k. search rules))) in
    rw sorted at (items_from_collect c.collect.result c.collect.ensures.ran
    (YieldsList-from_map _ (λ q. q.1) (YieldsList-from_slice c.deref.result.now cc) c.map.ensures.closure (λ x r q k. search rules)))
