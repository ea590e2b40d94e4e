use Rattle.std.proofs.Common.{arith}
use Rattle.std.proofs.lemmas.Grind.{common_steps}
use Rattle.nft_rulesets.specs.Chains.{head, policy}
use Rattle.nft_rulesets.proofs.heads.head.Goals as goal

pub returns-8 : goal.returns-8
unfolding head policy
returns-8 c = grind (arith, common_steps)
