use Rattle.std.proofs.Common.{refl}
use Rattle.definition_examples.proofs.ComputedHooks.{forwards}
use Rattle.definition_examples.proofs.semantics.jump_and_goto.Goals as goal

pub returns-clause-jump : goal.returns-clause-jump
returns-clause-jump c = forwards _ _ _ refl

pub returns-clause-goto : goal.returns-clause-goto
returns-clause-goto c = forwards _ _ _ refl
