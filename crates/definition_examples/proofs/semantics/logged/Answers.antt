use Rattle.std.proofs.Common.{refl}
use Rattle.definition_examples.proofs.ComputedHooks.{forwards}
use Rattle.definition_examples.proofs.semantics.logged.Goals as goal

pub returns : goal.returns
returns c = forwards _ _ _ refl
