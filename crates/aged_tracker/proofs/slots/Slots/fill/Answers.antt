use Rattle.std.proofs.Common.{arith, length, ◌<◌}
use Rattle.std.proofs.lemmas.List.{length-set}
use Rattle.aged_tracker.proofs.SlotLists.{get_view, room_stored, stored_after, written_whole}
use Rattle.aged_tracker.proofs.slots.Slots.fill.Goals.{After-insert_reserved-key}
use Rattle.aged_tracker.proofs.slots.Slots.fill.Goals as goal

places : (c : After-insert_reserved-key) → (c.insert_reserved-key.result < length c.self.inside.links.items)
    × (c.insert_reserved-key.result < length c.self.inside.cold.items)
places c = rw c.insert_reserved-key.ensures.key (room_stored _ _ _ _ c.self.view_is c.requires).1

pub insert_reserved-key-requires : goal.insert_reserved-key-requires
insert_reserved-key-requires c = (room_stored _ _ _ _ c.self.view_is c.requires).0

pub index_mut-requires : goal.index_mut-requires
index_mut-requires c =
    let linked = (places (goal.at.index_mut-requires c).After-insert_reserved-key).0 in omega (arith, linked)

pub index_mut-requires-2 : goal.index_mut-requires-2
index_mut-requires-2 c =
    let begun = (places (goal.at.index_mut-requires-2 c).After-insert_reserved-key).1 in omega (arith, begun)

pub invariant_of-self : goal.invariant_of-self
invariant_of-self c =
    let within = places (goal.at.invariant_of-self c).After-insert_reserved-key in
    let key = c.insert_reserved-key.result in
    let links = length-set c.self.inside.links.items key c.parts.result.2 in
    let cold = length-set c.self.inside.cold.items key c.parts.result.1 in
    stored_after _ _ _ _ _ _ _ _ c.insert_reserved-key.ensures.updates c.self.invariant (omega (arith, links))
    (omega (arith, cold))
    (λ is. (omega (arith, links, within.0), omega (arith, cold, within.1)))

pub returns-clause-free : goal.returns-clause-free
returns-clause-free c =
    let get = get_view _ _ _ _ c.self.view_is c.insert_reserved-key.result in
    grind (arith, get, c.insert_reserved-key.ensures.was_vacant)

pub returns-clause-updates : goal.returns-clause-updates
returns-clause-updates c =
    let within = places (goal.at.returns-clause-updates c).After-insert_reserved-key in
    rw c.parts.ensures at (written_whole _ _ _ _ _ c.self.view_is _ _ c.insert_reserved-key.ensures.updates
    c.parts.result.2 within.0 c.parts.result.1 within.1)
