use Rattle.engine.proofs.Refusing.{alone}
use Rattle.engine.proofs.laws.one_refusal.Goals as goal

pub returns : goal.returns
returns c = alone c.readings.ensures
