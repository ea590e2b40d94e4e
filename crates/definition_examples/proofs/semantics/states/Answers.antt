use Rattle.std.proofs.Common.{refl}
use Rattle.definition_examples.proofs.ComputedHooks.{forwards}
use Rattle.definition_examples.proofs.semantics.states.Goals as goal

pub returns-clause-any : goal.returns-clause-any
returns-clause-any c = (forwards _ _ _ refl, forwards _ _ _ refl, forwards _ _ _ refl, forwards _ _ _ refl)

pub returns-clause-invalid : goal.returns-clause-invalid
returns-clause-invalid c = (forwards _ _ _ refl, forwards _ _ _ refl, forwards _ _ _ refl)

pub returns-clause-exactly : goal.returns-clause-exactly
returns-clause-exactly c = (forwards _ _ _ refl, forwards _ _ _ refl)

pub returns-clause-none : goal.returns-clause-none
returns-clause-none c = (forwards _ _ _ refl, forwards _ _ _ refl, forwards _ _ _ refl, forwards _ _ _ refl)

pub returns-clause-related : goal.returns-clause-related
returns-clause-related c = (forwards _ _ _ refl, forwards _ _ _ refl)

pub returns-clause-none_of_two : goal.returns-clause-none_of_two
returns-clause-none_of_two c = (forwards _ _ _ refl, forwards _ _ _ refl)
