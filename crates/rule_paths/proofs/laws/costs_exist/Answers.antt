use Rattle.rule_paths.proofs.Callers.{costs_exist}
use Rattle.rule_paths.proofs.laws.costs_exist.Goals as goal

pub returns : goal.returns
returns c = costs_exist
