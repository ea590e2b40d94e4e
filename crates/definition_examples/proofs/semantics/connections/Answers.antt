use Rattle.std.proofs.Common.{refl}
use Rattle.definition_examples.proofs.ComputedHooks.{forwards}
use Rattle.definition_examples.proofs.semantics.connections.Goals as goal

pub returns-clause-status : goal.returns-clause-status
returns-clause-status c = (forwards _ _ _ refl, forwards _ _ _ refl, forwards _ _ _ refl, forwards _ _ _ refl)

pub returns-clause-direction : goal.returns-clause-direction
returns-clause-direction c = (forwards _ _ _ refl, forwards _ _ _ refl)

pub returns-clause-mark : goal.returns-clause-mark
returns-clause-mark c = (forwards _ _ _ refl, forwards _ _ _ refl)
