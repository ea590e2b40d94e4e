use Rattle.std.proofs.Common.{refl}
use Rattle.definition_examples.proofs.ComputedHooks.{forwards}
use Rattle.definition_examples.proofs.semantics.joined.Goals as goal

pub returns-clause-among : goal.returns-clause-among
returns-clause-among c = (forwards _ _ _ refl, forwards _ _ _ refl)

pub returns-clause-not_among : goal.returns-clause-not_among
returns-clause-not_among c = (forwards _ _ _ refl, forwards _ _ _ refl, forwards _ _ _ refl)
