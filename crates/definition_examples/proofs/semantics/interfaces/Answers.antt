use Rattle.std.proofs.Common.{refl}
use Rattle.definition_examples.proofs.ComputedHooks.{forwards}
use Rattle.definition_examples.proofs.semantics.interfaces.Goals as goal

pub returns-clause-name : goal.returns-clause-name
returns-clause-name c = (forwards _ _ _ refl, forwards _ _ _ refl)

pub returns-clause-star : goal.returns-clause-star
returns-clause-star c = (forwards _ _ _ refl, forwards _ _ _ refl)

pub returns-clause-index : goal.returns-clause-index
returns-clause-index c = (forwards _ _ _ refl, forwards _ _ _ refl, forwards _ _ _ refl)

pub returns-clause-unknown : goal.returns-clause-unknown
returns-clause-unknown c = (forwards _ _ _ refl, forwards _ _ _ refl, forwards _ _ _ refl)
