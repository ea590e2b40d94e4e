use Rattle.engine.proofs.Refusing.{refused_means_nothing}
use Rattle.engine.proofs.laws.no_meaning.Goals as goal

pub returns : goal.returns
returns c = refused_means_nothing c.readings.ensures
