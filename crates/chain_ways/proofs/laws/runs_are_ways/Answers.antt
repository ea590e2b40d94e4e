use Rattle.chain_ways.proofs.Along.{along, ran}
use Rattle.chain_ways.proofs.Costs.{ranked}
use Rattle.chain_ways.proofs.laws.runs_are_ways.Goals as goal

pub returns-clause-runs : goal.returns-clause-runs
returns-clause-runs c = λ p weight cost depth rank chain rules has levels many.
    along p (c.rule_runs_to_its_end.ensures p) cost (ranked p weight cost depth rank) levels chain rules has many

pub returns-clause-ways : goal.returns-clause-ways
returns-clause-ways c = λ p weight cost depth rank targets chain rules has levels many.
    ran p (c.rule_runs_to_its_end.ensures p) cost (ranked p weight cost depth rank) targets levels chain rules has many
