use Rattle.rule_meaning.proofs.HookResults.{ends_all}
use Rattle.rule_meaning.proofs.laws.drop_ends_hook.Goals as goal

pub returns : goal.returns
returns c = ends_all
