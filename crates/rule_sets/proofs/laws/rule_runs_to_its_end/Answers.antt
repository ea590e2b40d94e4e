use Rattle.rule_sets.proofs.Following.{runs_to_its_end}
use Rattle.rule_sets.proofs.laws.rule_runs_to_its_end.Goals as goal

pub returns : goal.returns
returns c = λ p. runs_to_its_end p
