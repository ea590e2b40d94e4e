use Rattle.std.proofs.Common.{ap, arith, refl, set, ◌∙◌}
use Rattle.std.proofs.lemmas.List.{get_or_default, length-set}
use Rattle.slab.specs.Slab.{get}
use Rattle.aged_tracker.specs.steps.SlotLists.{unlinked}
use Rattle.aged_tracker.specs.steps.Table.{with_neighbour}
use Rattle.aged_tracker.proofs.Lists.{some_of}
use Rattle.aged_tracker.proofs.SlotLists.{get_used, size_linked, stored_key, written_link}
use Rattle.aged_tracker.proofs.slots.Slots.set_neighbour.Goals as goal

pub index_mut-requires : goal.index_mut-requires
index_mut-requires c =
    let linked = c.self.invariant.linked c.args.key (stored_key _ _ _ _ c.self.view_is c.args.key c.requires) in
    omega (arith, linked)

pub returns-clause-slots : goal.returns-clause-slots
returns-clause-slots c =
    let slab = c.self.inside.slab in
    let links = c.self.inside.links.items in
    let cold = c.self.inside.cold.items in
    let used = stored_key _ _ _ _ c.self.view_is c.args.key c.requires in
    let linked = c.self.invariant.linked c.args.key used in
    let hot = some_of (get slab c.args.key) used in
    let read = c.index_mut.ensures.value ∙ get_or_default links c.args.key _ unlinked linked in
    let link = c.set.ensures ∙ ap (with_neighbour c.args.neighbour c.args.to) read in
    rw (get_used _ _ _ _ c.self.view_is c.args.key hot.0 hot.1, ← link)
    (written_link slab slab links cold _ c.self.view_is
    c.args.key hot.0 (record { changed = hot.1; others = λ other d. refl }) c.set.new.self linked)

pub returns-clause-size : goal.returns-clause-size
returns-clause-size c =
    let links = c.self.inside.links.items in
    let link = c.set.new.self in
    rw (← c.self.view_is) (size_linked c.self.inside.slab links (set links c.args.key link) c.self.inside.cold.items
    (length-set links c.args.key link))
