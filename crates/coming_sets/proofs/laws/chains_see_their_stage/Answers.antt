use Rattle.coming_sets.proofs.Placing.{at_its_stage}
use Rattle.coming_sets.proofs.laws.chains_see_their_stage.Goals as goal

pub returns : goal.returns
returns c = λ stage b stands f. at_its_stage stage b stands f
