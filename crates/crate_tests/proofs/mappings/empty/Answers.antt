use Rattle.crate_tests.proofs.Holders.{none}
use Rattle.crate_tests.proofs.mappings.empty.Goals as goal

pub returns : goal.returns
returns c = record { few = λ m. none c.new.result.held c.new.ensures.held m }
