use Rattle.std.proofs.Common.{arith}
use Rattle.std.proofs.lemmas.Grind.{common_steps}
use Rattle.aged_tracker.specs.steps.SlotLists.{cold_of, link_of}
use Rattle.aged_tracker.proofs.SlotLists.{get_view}
use Rattle.aged_tracker.proofs.slots.Slots.belonging.Goals as goal

pub returns-in_err-slot-clause-belonging : goal.returns-in_err-slot-clause-belonging
returns-in_err-slot-clause-belonging c = grind (arith, common_steps, get_view _ _ _ _ c.self.view_is c.args.key)

pub returns-in_err-direction-clause-belonging : goal.returns-in_err-direction-clause-belonging
returns-in_err-direction-clause-belonging c =
    let link = link_of c.self.inside.links.items c.args.key in
    let cold = cold_of c.self.inside.cold.items c.args.key in
    grind (arith, common_steps, get_view _ _ _ _ c.self.view_is c.args.key, c.direction_of.ensures link cold)

pub returns-clause-belonging : goal.returns-clause-belonging
returns-clause-belonging c =
    let link = link_of c.self.inside.links.items c.args.key in
    let cold = cold_of c.self.inside.cold.items c.args.key in
    let get = get_view _ _ _ _ c.self.view_is c.args.key in
    grind (arith, common_steps, get, c.direction_of.ensures link cold, c.belonging.ensures link cold)
