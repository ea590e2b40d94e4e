use Rattle.std.proofs.Common.{refl}
use Rattle.definition_examples.proofs.ComputedHooks.{forwards}
use Rattle.definition_examples.proofs.semantics.tcp_flags.Goals as goal

pub returns-clause-any : goal.returns-clause-any
returns-clause-any c = (forwards _ _ _ refl, forwards _ _ _ refl, forwards _ _ _ refl, forwards _ _ _ refl)

pub returns-clause-exact : goal.returns-clause-exact
returns-clause-exact c = (forwards _ _ _ refl, forwards _ _ _ refl, forwards _ _ _ refl, forwards _ _ _ refl)

pub returns-clause-masked : goal.returns-clause-masked
returns-clause-masked c = (forwards _ _ _ refl, forwards _ _ _ refl, forwards _ _ _ refl)

pub returns-clause-masked_unequal : goal.returns-clause-masked_unequal
returns-clause-masked_unequal c = (forwards _ _ _ refl, forwards _ _ _ refl, forwards _ _ _ refl)

pub returns-clause-number : goal.returns-clause-number
returns-clause-number c = (forwards _ _ _ refl, forwards _ _ _ refl)
