use Rattle.action_cases.proofs.KeptLaws.{kept}
use Rattle.action_cases.proofs.laws.bits_are_kept.Goals as goal

pub returns : goal.returns
returns c = kept
