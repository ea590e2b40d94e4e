use Rattle.std.proofs.Common.{None, Some, ap, refl, sym, ◌∙◌}
use Rattle.std.proofs.lemmas.List.{get_or_default}
use Rattle.slab.specs.Slab.{ContainsKey}
use Rattle.aged_tracker.specs.steps.SlotLists.{cold_of, unlinked, unused, whole_slot}
use Rattle.aged_tracker.proofs.SlotLists.{get_used, room_whole, stored_key, updates_whole}
use Rattle.aged_tracker.proofs.slots.Slots.remove.Goals.{After-remove-hot}
use Rattle.aged_tracker.proofs.slots.Slots.remove.Goals as goal

used : (c : After-remove-hot) → ContainsKey c.self.inside.slab c.args.key
used c = stored_key _ _ _ _ c.self.view_is c.args.key c.requires

pub remove-hot-requires : goal.remove-hot-requires
remove-hot-requires c = stored_key _ _ _ _ c.self.view_is c.args.key c.requires

pub returns-clause-value : goal.returns-clause-value
returns-clause-value c =
    let at = (goal.at.returns-clause-value c).After-remove-hot in
    let links = c.self.inside.links.items in
    let origins = c.self.inside.cold.items in
    let linked = c.self.invariant.linked c.args.key (used at) in
    let begun = c.self.invariant.begun c.args.key (used at) in
    let link = c.index.ensures ∙ get_or_default links c.args.key _ unlinked linked in
    let cold = c.index-2.ensures ∙ get_or_default origins c.args.key _ unused begun in
    get_used _ _ _ _ c.self.view_is c.args.key _ c.remove-hot.ensures.value
    ∙ ap (λ l. Some (whole_slot l (cold_of origins c.args.key) c.remove-hot.result)) (sym link)
    ∙ ap (λ o. Some (whole_slot c.index.result.now o c.remove-hot.result)) (sym cold) ∙ ap Some (sym c.whole.ensures)

pub returns-clause-updates : goal.returns-clause-updates
returns-clause-updates c =
    rw (← c.self.view_is) (updates_whole _ _ _ _ _ _ c.args.key None c.remove-hot.ensures.updates (λ other d. refl)
    (λ other d. refl))

pub returns-clause-room : goal.returns-clause-room
returns-clause-room c =
    let at = (goal.at.returns-clause-room c).After-remove-hot in
    let next = c.remove-hot.ensures.key_is_next in
    room_whole c.remove-hot.new.self c.self.inside.links.items c.self.inside.cold.items c.remove-hot.ensures.room
    (rw next (c.self.invariant.linked c.args.key (used at))) (rw next (c.self.invariant.begun c.args.key (used at)))
