use Rattle.std.proofs.Common.{arith}
use Rattle.std.proofs.Common.{refl}
use Rattle.definition_examples.proofs.ComputedHooks.{forwards}
use Rattle.definition_examples.proofs.semantics.fields.Goals as goal

pub returns-clause-header : goal.returns-clause-header
returns-clause-header c = grind (arith, forwards)

pub returns-clause-udp : goal.returns-clause-udp
returns-clause-udp c = (forwards _ _ _ refl, forwards _ _ _ refl, forwards _ _ _ refl, forwards _ _ _ refl)

pub returns-clause-tcp : goal.returns-clause-tcp
returns-clause-tcp c = (forwards _ _ _ refl, forwards _ _ _ refl, forwards _ _ _ refl, forwards _ _ _ refl)

pub returns-clause-icmp : goal.returns-clause-icmp
returns-clause-icmp c = (forwards _ _ _ refl, forwards _ _ _ refl, forwards _ _ _ refl)

pub returns-clause-mark : goal.returns-clause-mark
returns-clause-mark c = (forwards _ _ _ refl, forwards _ _ _ refl)
