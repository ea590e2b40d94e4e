use Rattle.std.proofs.Common.{refl}
use Rattle.definition_examples.proofs.ComputedHooks.{forwards}
use Rattle.definition_examples.proofs.semantics.notrack_packets.Goals as goal

pub returns-clause-unknown : goal.returns-clause-unknown
returns-clause-unknown c = forwards _ _ _ refl

pub returns-clause-known : goal.returns-clause-known
returns-clause-known c = forwards _ _ _ refl

pub returns-clause-invalid : goal.returns-clause-invalid
returns-clause-invalid c = forwards _ _ _ refl

pub returns-clause-read : goal.returns-clause-read
returns-clause-read c = (forwards _ _ _ refl, forwards _ _ _ refl, forwards _ _ _ refl)

pub returns-clause-not_read : goal.returns-clause-not_read
returns-clause-not_read c = (forwards _ _ _ refl, forwards _ _ _ refl, forwards _ _ _ refl)
