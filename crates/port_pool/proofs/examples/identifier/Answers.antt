use Rattle.std.proofs.Common.{refl}
use Rattle.port_pool.specs.Candidates.{candidates, numbers}
use Rattle.port_pool.proofs.examples.identifier.Goals as goal

pub returns : goal.returns
unfolding candidates numbers
returns c = record { itself = refl; next = refl; past_the_last = refl; range = refl }
