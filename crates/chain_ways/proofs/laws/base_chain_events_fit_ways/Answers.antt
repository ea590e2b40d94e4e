use Rattle.chain_ways.proofs.Fitting.{base_chain_events_fit_ways}
use Rattle.chain_ways.proofs.laws.base_chain_events_fit_ways.Goals as goal

pub returns : goal.returns
returns c = λ tables network well b has table at.
    base_chain_events_fit_ways tables network well b table at (c.base_chain_runs_are_ways.ensures tables network well b has table at)
