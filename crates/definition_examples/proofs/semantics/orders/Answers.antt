use Rattle.std.proofs.Common.{refl}
use Rattle.definition_examples.proofs.ComputedHooks.{forwards}
use Rattle.definition_examples.proofs.semantics.orders.Goals as goal

pub returns-clause-below : goal.returns-clause-below
returns-clause-below c = (forwards _ _ _ refl, forwards _ _ _ refl)

pub returns-clause-above : goal.returns-clause-above
returns-clause-above c = (forwards _ _ _ refl, forwards _ _ _ refl)

pub returns-clause-at_most : goal.returns-clause-at_most
returns-clause-at_most c = (forwards _ _ _ refl, forwards _ _ _ refl)

pub returns-clause-at_least : goal.returns-clause-at_least
returns-clause-at_least c = (forwards _ _ _ refl, forwards _ _ _ refl)
