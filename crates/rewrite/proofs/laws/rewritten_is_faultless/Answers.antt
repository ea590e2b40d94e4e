use Rattle.rewrite.proofs.Rewritten.{rewritten_passes}
use Rattle.rewrite.proofs.laws.rewritten_is_faultless.Goals as goal

pub returns : goal.returns
returns c = λ p change none. c.no_fault.ensures.faultless _ (rewritten_passes p change (c.no_fault.ensures.passes p none))
