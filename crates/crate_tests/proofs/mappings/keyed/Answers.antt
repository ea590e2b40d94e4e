use Rattle.crate_tests.proofs.Holders.{none}
use Rattle.crate_tests.proofs.mappings.keyed.Goals as goal

pub returns : goal.returns
returns c = record { few = λ m. none c.with_hasher.result.held c.with_hasher.ensures.held m }
