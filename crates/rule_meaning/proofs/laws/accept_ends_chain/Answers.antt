use Rattle.rule_meaning.proofs.HookResults.{ends_one}
use Rattle.rule_meaning.proofs.laws.accept_ends_chain.Goals as goal

pub returns : goal.returns
returns c = ends_one
