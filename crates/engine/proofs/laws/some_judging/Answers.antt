use Rattle.engine.proofs.Answering.{judgement}
use Rattle.engine.proofs.laws.some_judging.Goals as goal

pub returns : goal.returns
returns c = judgement c.some_answer.ensures c.some_box.ensures c.well_formed_or_least_fault.ensures
