use Rattle.rule_meaning.proofs.Values.{reads_nothing}
use Rattle.rule_meaning.proofs.laws.match_needs_value.Goals as goal

pub returns : goal.returns
returns c = λ scope m s f has nothing. reads_nothing s f nothing scope m has
