use Rattle.std.proofs.Common.{refl}
use Rattle.definition_examples.proofs.ComputedHooks.{forwards}
use Rattle.definition_examples.proofs.semantics.ranges.Goals as goal

pub returns-clause-equal : goal.returns-clause-equal
returns-clause-equal c = (forwards _ _ _ refl, forwards _ _ _ refl)

pub returns-clause-unequal : goal.returns-clause-unequal
returns-clause-unequal c = (forwards _ _ _ refl, forwards _ _ _ refl)

pub returns-clause-word : goal.returns-clause-word
returns-clause-word c = (forwards _ _ _ refl, forwards _ _ _ refl)

pub returns-clause-prefix : goal.returns-clause-prefix
returns-clause-prefix c = (forwards _ _ _ refl, forwards _ _ _ refl)
