use Rattle.std.proofs.Common.{refl}
use Rattle.definition_examples.proofs.ComputedHooks.{forwards}
use Rattle.definition_examples.proofs.semantics.counter_before_match.Goals as goal

pub returns-clause-before : goal.returns-clause-before
returns-clause-before c = forwards _ _ _ refl

pub returns-clause-behind : goal.returns-clause-behind
returns-clause-behind c = forwards _ _ _ refl
