use Rattle.rule_meaning.proofs.Determinism.{one_after}
use Rattle.rule_meaning.proofs.laws.run_unique.Goals as goal

pub returns : goal.returns
returns c = λ p n m l f es o other a b. one_after p a other b
