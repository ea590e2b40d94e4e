use Rattle.std.proofs.Common.{refl}
use Rattle.port_pool.specs.Candidates.{candidates, numbers}
use Rattle.port_pool.proofs.examples.without_ports.Goals as goal

pub returns : goal.returns
unfolding candidates numbers
returns c = record { free = refl; taken = refl }
