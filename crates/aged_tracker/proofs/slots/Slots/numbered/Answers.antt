use Rattle.aged_tracker.proofs.Names.{YieldsList-from_first, YieldsList-from_map, entries, items_from_collect, rules}
use Rattle.aged_tracker.proofs.SlotLists.{len_view, numbered_stored, numbered_view}
use Rattle.aged_tracker.proofs.slots.Slots.numbered.Goals as goal

pub returns-clause-numbered : goal.returns-clause-numbered
returns-clause-numbered c =
    rw (numbered_view _ _ _ _ c.self.view_is) (items_from_collect c.collect.result c.collect.ensures.ran
    (YieldsList-from_map _ (numbered_stored c.self.inside.cold.items)
    (YieldsList-from_first (λ item. (item.0, item.1.now)) (λ rest. rest) (entries c.self.inside.slab) cc)
    c.map.ensures.closure (λ x r q k. search rules)))

pub returns-clause-steps : goal.returns-clause-steps
returns-clause-steps c = rw (len_view _ _ _ _ c.self.view_is, ← c.len.ensures) c.add.ensures
