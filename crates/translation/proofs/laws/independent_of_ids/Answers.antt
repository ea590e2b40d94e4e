use Rattle.translation.proofs.Names.{same_mappings}
use Rattle.translation.proofs.laws.independent_of_ids.Goals as goal

pub returns : goal.returns
returns c = same_mappings
