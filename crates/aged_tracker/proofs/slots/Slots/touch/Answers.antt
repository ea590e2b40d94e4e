use Rattle.std.proofs.Common.{Some, ap, refl, ◌∙◌, ◌≡◌}
use Rattle.std.proofs.lemmas.List.{get_or_default}
use Rattle.slab.proofs.SlabLemmas.{Updates-with_value}
use Rattle.slab.specs.Slab.{ContainsKey, get}
use Rattle.aged_tracker.specs.declared.slot.Link.{Link}
use Rattle.aged_tracker.specs.steps.SlotLists.{cold_of, link_of, slot_at, unlinked}
use Rattle.aged_tracker.specs.steps.Table.{queue_in}
use Rattle.aged_tracker.proofs.SlotLists.{get_used, size_written, stored_key, written}
use Rattle.aged_tracker.proofs.slots.Slots.touch.Goals.{After-index_mut-slot}
use Rattle.aged_tracker.proofs.slots.Slots.touch.Goals as goal

used : (c : After-index_mut-slot) → ContainsKey c.self.inside.slab c.args.key
used c = stored_key _ _ _ _ c.self.view_is c.args.key c.requires

here : (c : After-index_mut-slot) → get c.args.self.now c.args.key
    ≡ Some (slot_at c.self.inside.links.items c.self.inside.cold.items c.args.key c.index_mut-slot.result.now)
here c = get_used _ _ _ _ c.self.view_is c.args.key _ c.index_mut-slot.ensures.value

pub index_mut-slot-requires : goal.index_mut-slot-requires
index_mut-slot-requires c = stored_key _ _ _ _ c.self.view_is c.args.key c.requires

pub returns-clause-slots : goal.returns-clause-slots
returns-clause-slots c =
    let at = (goal.at.returns-clause-slots c).After-index_mut-slot in
    let link = link_of c.self.inside.links.items c.args.key in
    let cold = cold_of c.self.inside.cold.items c.args.key in
    rw (here at) (rw (c.touch.ensures link cold) at (written _ _ _ _ _ c.self.view_is c.args.key _
    (Updates-with_value c.self.inside.slab c.args.key c.touch.new.self (used at))))

pub returns-clause-queue : goal.returns-clause-queue
returns-clause-queue c =
    let link = link_of c.self.inside.links.items c.args.key in
    let cold = cold_of c.self.inside.cold.items c.args.key in
    rw (here (goal.at.returns-clause-queue c).After-index_mut-slot)
    (c.queue.ensures.queue link cold ∙ ap queue_in (c.touch.ensures link cold))

pub returns-clause-follower : goal.returns-clause-follower
returns-clause-follower c =
    let at = (goal.at.returns-clause-follower c).After-index_mut-slot in
    let linked = c.self.invariant.linked c.args.key (used at) in
    rw (here at)
    (ap (λ (l : Link). l.next) (c.index.ensures
    ∙ get_or_default c.self.inside.links.items c.args.key _ unlinked linked))

pub returns-clause-size : goal.returns-clause-size
returns-clause-size c =
    let links = c.self.inside.links.items in
    rw (← c.self.view_is) (size_written c.self.inside.slab links links c.self.inside.cold.items refl c.args.key
    c.touch.new.self (used (goal.at.returns-clause-size c).After-index_mut-slot))
