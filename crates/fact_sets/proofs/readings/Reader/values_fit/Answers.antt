use Rattle.fact_sets.proofs.SelectorLaws.{fits}
use Rattle.fact_sets.proofs.readings.Reader.values_fit.Goals as goal

pub returns : goal.returns
returns c = λ s f. fits c.args.self s f c.narrow.ensures
