use Rattle.rewrite.specs.Rewritten.{rewritten}
use Rattle.rewrite.proofs.Rewritten.{rewritten_has_tuple}
use Rattle.rewrite.proofs.laws.rewritten_has_tuple.Goals as goal

pub returns : goal.returns
unfolding rewritten
returns c = λ p t ttl none kind suit. rewritten_has_tuple p t ttl (c.no_fault.ensures.passes p none) kind suit
