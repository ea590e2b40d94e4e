use Rattle.std.proofs.Common.{arith}
use Rattle.std.proofs.lemmas.Grind.{common_steps}
use Rattle.aged_tracker.proofs.SlotLists.{room_stored, room_whole}
use Rattle.aged_tracker.proofs.slots.Slots.reserve_one.Goals as goal

pub returns-in_err-make_place-clause-spared : goal.returns-in_err-make_place-clause-spared
returns-in_err-make_place-clause-spared c room =
    let had = room_stored _ _ _ _ c.self.view_is room in
    grind (arith, common_steps, c.vacant_key-key.ensures.value, had.1.0, c.make_place.ensures.spared)

pub returns-in_err-make_place-2-clause-spared : goal.returns-in_err-make_place-2-clause-spared
returns-in_err-make_place-2-clause-spared c room =
    let had = room_stored _ _ _ _ c.self.view_is room in
    grind (arith, common_steps, c.vacant_key-key.ensures.value, had.1.1, c.make_place-2.ensures.spared)

pub returns-clause-room : goal.returns-clause-room
returns-clause-room c =
    grind (
      arith,
      common_steps,
      room_whole c.reserve.new.self c.make_place.new.list.items c.make_place-2.new.list.items,
      c.reserve.ensures.room,
      c.reserve.ensures.rest_kept,
      c.vacant_key-key.ensures.value,
      c.make_place.ensures.place,
      c.make_place-2.ensures.place,
    )

pub returns-clause-spared : goal.returns-clause-spared
returns-clause-spared c room =
    let had = room_stored _ _ _ _ c.self.view_is room in
    let stays = c.reserve.ensures.had_room had.0 in
    let links = (c.make_place.ensures.spared (rw c.vacant_key-key.ensures.value had.1.0)).0 in
    let cold = (c.make_place-2.ensures.spared (rw c.vacant_key-key.ensures.value had.1.1)).0 in
    (rw (stays, links, cold) c.self.view_is, c.reserve.ensures.succeeds had.0)
