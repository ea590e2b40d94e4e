use Rattle.std.proofs.Common.{None, Some, ap, arith, refl, sym, ◌∙◌, ◌≡◌}
use Rattle.std.proofs.lemmas.List.{get_or_default}
use Rattle.slab.proofs.SlabLemmas.{Updates-with_value}
use Rattle.slab.specs.Slab.{ContainsKey, get}
use Rattle.aged_tracker.specs.steps.SlotLists.{link_of, slot_at, unlinked}
use Rattle.aged_tracker.specs.steps.Table.{owner_by}
use Rattle.aged_tracker.proofs.SlotLists.{get_used, placed, size_written, stored_key, written}
use Rattle.aged_tracker.proofs.slots.Slots.take_links.Goals.{After-index}
use Rattle.aged_tracker.proofs.slots.Slots.take_links.Goals as goal

used : (c : After-index) → ContainsKey c.self.inside.slab c.args.key
used c = stored_key _ _ _ _ c.self.view_is c.args.key c.requires

here : (c : After-index) → get c.args.self.now c.args.key
    ≡ Some (slot_at c.self.inside.links.items c.self.inside.cold.items c.args.key c.index_mut-slot.result.now)
here c = get_used _ _ _ _ c.self.view_is c.args.key _ c.index_mut-slot.ensures.value

link : (c : After-index) → c.index.result.now ≡ link_of c.self.inside.links.items c.args.key
link c = c.index.ensures ∙ get_or_default c.self.inside.links.items c.args.key _ unlinked
    (c.self.invariant.linked c.args.key (used c))

pub index_mut-slot-requires : goal.index_mut-slot-requires
index_mut-slot-requires c = stored_key _ _ _ _ c.self.view_is c.args.key c.requires

pub returns-clause-list : goal.returns-clause-list
returns-clause-list c = sym (ap owner_by (here (goal.at.returns-clause-list c).After-index))

pub returns-clause-link : goal.returns-clause-link
returns-clause-link c heads =
    let at = (goal.at.returns-clause-link c).After-index in
    grind (arith, here at, link at)

pub returns-clause-placed : goal.returns-clause-placed
returns-clause-placed c =
    let at = (goal.at.returns-clause-placed c).After-index in
    rw (link at) (placed _ _ c.args.key _ _ (here at) (written _ _ _ _ _ c.self.view_is c.args.key _
    (Updates-with_value c.self.inside.slab c.args.key _ (used at))))

pub returns-clause-size : goal.returns-clause-size
returns-clause-size c =
    let links = c.self.inside.links.items in
    rw (← c.self.view_is) (size_written c.self.inside.slab links links c.self.inside.cold.items refl c.args.key
    (record c.index_mut-slot.result.now { list = None }) (used (goal.at.returns-clause-size c).After-index))
