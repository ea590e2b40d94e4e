use Rattle.std.proofs.Common.{refl}
use Rattle.definition_examples.proofs.ComputedHooks.{forwards}
use Rattle.definition_examples.proofs.semantics.sets.Goals as goal

pub returns-clause-among : goal.returns-clause-among
returns-clause-among c = (forwards _ _ _ refl, forwards _ _ _ refl, forwards _ _ _ refl)

pub returns-clause-not_among : goal.returns-clause-not_among
returns-clause-not_among c = (forwards _ _ _ refl, forwards _ _ _ refl)

pub returns-clause-without_value : goal.returns-clause-without_value
returns-clause-without_value c = (forwards _ _ _ refl, forwards _ _ _ refl, forwards _ _ _ refl)

pub returns-clause-with_name : goal.returns-clause-with_name
returns-clause-with_name c = (forwards _ _ _ refl, forwards _ _ _ refl)
