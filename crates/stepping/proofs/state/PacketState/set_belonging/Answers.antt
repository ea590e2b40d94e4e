use Rattle.stepping.proofs.Names.{refl, ◌∙◌}
use Rattle.stepping.proofs.state.PacketState.set_belonging.Goals as goal

pub returns-in-Found-clause-state : goal.returns-in-Found-clause-state
returns-in-Found-clause-state c = λ events. c.set_info.ensures.state events ∙ rw c.of.ensures refl

pub returns-in-NotFound-clause-state : goal.returns-in-NotFound-clause-state
returns-in-NotFound-clause-state c = λ events. c.set_info-in-NotFound.ensures.state events ∙ rw c.of-in-NotFound.ensures refl
