use Rattle.std.proofs.Common.{refl}
use Rattle.definition_examples.proofs.ComputedHooks.{forwards}
use Rattle.definition_examples.proofs.semantics.connections_marked.Goals as goal

pub returns-clause-known : goal.returns-clause-known
returns-clause-known c = forwards _ _ _ refl

pub returns-clause-none : goal.returns-clause-none
returns-clause-none c = forwards _ _ _ refl

pub returns-clause-without_operand : goal.returns-clause-without_operand
returns-clause-without_operand c = forwards _ _ _ refl
