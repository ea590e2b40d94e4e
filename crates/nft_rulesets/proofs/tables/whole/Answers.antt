use Rattle.std.proofs.Common.{arith}
use Rattle.std.proofs.lemmas.Grind.{common_steps}
use Rattle.nft_rulesets.specs.steps.Laws.{ruleset_at}
use Rattle.nft_rulesets.specs.steps.Starts.{whole_from}
use Rattle.nft_rulesets.proofs.tables.whole.Goals as goal

pub returns : goal.returns
unfolding ruleset_at
returns c = grind (arith, common_steps, whole_from)

pub returns-then-end-tokens : goal.returns-then-end-tokens
unfolding ruleset_at
returns-then-end-tokens c = grind (arith, common_steps, whole_from)
