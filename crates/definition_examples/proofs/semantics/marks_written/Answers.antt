use Rattle.std.proofs.Common.{refl}
use Rattle.definition_examples.proofs.ComputedHooks.{forwards}
use Rattle.definition_examples.proofs.semantics.marks_written.Goals as goal

pub returns-clause-number : goal.returns-clause-number
returns-clause-number c = forwards _ _ _ refl

pub returns-clause-found : goal.returns-clause-found
returns-clause-found c = forwards _ _ _ refl

pub returns-clause-missing : goal.returns-clause-missing
returns-clause-missing c = forwards _ _ _ refl

pub returns-clause-of_connection : goal.returns-clause-of_connection
returns-clause-of_connection c = forwards _ _ _ refl

pub returns-clause-of_none : goal.returns-clause-of_none
returns-clause-of_none c = forwards _ _ _ refl
