use Rattle.std.proofs.Common.{refl}
use Rattle.definition_examples.proofs.ComputedHooks.{forwards}
use Rattle.definition_examples.proofs.semantics.policy_at_end.Goals as goal

pub returns-clause-drop : goal.returns-clause-drop
returns-clause-drop c = forwards _ _ _ refl

pub returns-clause-not_given : goal.returns-clause-not_given
returns-clause-not_given c = forwards _ _ _ refl

pub returns-clause-no_chain : goal.returns-clause-no_chain
returns-clause-no_chain c = forwards _ _ _ refl
