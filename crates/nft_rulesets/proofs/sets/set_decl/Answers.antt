use Rattle.std.proofs.Common.{arith}
use Rattle.std.proofs.lemmas.Grind.{common_steps}
use Rattle.nft_rulesets.specs.Sets.{named_set}
use Rattle.nft_rulesets.specs.steps.SetLaws.{same_block}
use Rattle.nft_rulesets.proofs.sets.set_decl.Goals as goal

pub returns-3 : goal.returns-3
unfolding named_set
returns-3 c = grind (arith, common_steps, same_block)
