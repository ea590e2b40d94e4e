use Rattle.std.proofs.Common.{refl}
use Rattle.definition_examples.proofs.ComputedHooks.{forwards}
use Rattle.definition_examples.proofs.semantics.verdict_maps.Goals as goal

pub returns-clause-found : goal.returns-clause-found
returns-clause-found c = forwards _ _ _ refl

pub returns-clause-missing : goal.returns-clause-missing
returns-clause-missing c = forwards _ _ _ refl

pub returns-clause-without_value : goal.returns-clause-without_value
returns-clause-without_value c = forwards _ _ _ refl

pub returns-clause-jump : goal.returns-clause-jump
returns-clause-jump c = forwards _ _ _ refl

pub returns-clause-goto : goal.returns-clause-goto
returns-clause-goto c = forwards _ _ _ refl

pub returns-clause-with_name : goal.returns-clause-with_name
returns-clause-with_name c = forwards _ _ _ refl
