use Rattle.fact_sets.proofs.BoxLaws.{have_bits}
use Rattle.fact_sets.proofs.laws.facts_have_bits.Goals as goal

pub returns : goal.returns
returns c = have_bits
