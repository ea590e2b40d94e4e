use Rattle.std.proofs.Common.{arith}
use Rattle.std.proofs.lemmas.Grind.{common_steps}
use Rattle.aged_tracker.proofs.SlotLists.{get_view}
use Rattle.aged_tracker.proofs.slots.Slots.last.Goals as goal

pub returns-in-Some-clause-last : goal.returns-in-Some-clause-last
returns-in-Some-clause-last c = grind (arith, common_steps, get_view _ _ _ _ c.self.view_is c.args.key)

pub returns-in-None-clause-last : goal.returns-in-None-clause-last
returns-in-None-clause-last c = grind (arith, common_steps, get_view _ _ _ _ c.self.view_is c.args.key)
