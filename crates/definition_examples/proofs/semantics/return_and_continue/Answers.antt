use Rattle.std.proofs.Common.{refl}
use Rattle.definition_examples.proofs.ComputedHooks.{forwards}
use Rattle.definition_examples.proofs.semantics.return_and_continue.Goals as goal

pub returns-clause-back : goal.returns-clause-back
returns-clause-back c = forwards _ _ _ refl

pub returns-clause-on : goal.returns-clause-on
returns-clause-on c = forwards _ _ _ refl

pub returns-clause-over : goal.returns-clause-over
returns-clause-over c = forwards _ _ _ refl

pub returns-clause-to_policy : goal.returns-clause-to_policy
returns-clause-to_policy c = forwards _ _ _ refl
