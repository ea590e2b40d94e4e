use Rattle.engine.proofs.Answering.{answered}
use Rattle.engine.proofs.laws.some_answer.Goals as goal

pub returns : goal.returns
returns c = answered c.some_judging.ensures c.some_reading.ensures c.one_entry.ensures.some
