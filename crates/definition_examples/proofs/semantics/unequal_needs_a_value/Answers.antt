use Rattle.std.proofs.Common.{refl}
use Rattle.definition_examples.proofs.ComputedHooks.{forwards}
use Rattle.definition_examples.proofs.semantics.unequal_needs_a_value.Goals as goal

pub returns-clause-udp : goal.returns-clause-udp
returns-clause-udp c = forwards _ _ _ refl

pub returns-clause-web : goal.returns-clause-web
returns-clause-web c = forwards _ _ _ refl

pub returns-clause-shell : goal.returns-clause-shell
returns-clause-shell c = forwards _ _ _ refl
