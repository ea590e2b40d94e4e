use Rattle.std.proofs.Common.{arith}
use Rattle.std.proofs.lemmas.Grind.{common_steps}
use Rattle.nft_rulesets.specs.Sets.{named_map}
use Rattle.nft_rulesets.specs.steps.SetLaws.{same_block}
use Rattle.nft_rulesets.proofs.sets.map_decl.Goals as goal

pub returns-3 : goal.returns-3
unfolding named_map
returns-3 c = grind (arith, common_steps, same_block)
