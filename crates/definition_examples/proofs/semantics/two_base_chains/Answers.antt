use Rattle.std.proofs.Common.{refl}
use Rattle.definition_examples.proofs.ComputedHooks.{forwards}
use Rattle.definition_examples.proofs.semantics.two_base_chains.Goals as goal

pub returns-clause-rising : goal.returns-clause-rising
returns-clause-rising c = forwards _ _ _ refl

pub returns-clause-falling : goal.returns-clause-falling
returns-clause-falling c = forwards _ _ _ refl

pub returns-clause-equal : goal.returns-clause-equal
returns-clause-equal c = forwards _ _ _ refl

pub returns-clause-below_zero : goal.returns-clause-below_zero
returns-clause-below_zero c = forwards _ _ _ refl

pub returns-clause-tables : goal.returns-clause-tables
returns-clause-tables c = forwards _ _ _ refl
