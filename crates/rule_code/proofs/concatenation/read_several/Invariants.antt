use Rattle.rule_code.proofs.ConcatenationLaws.{Ahead}
use Rattle.rule_code.proofs.concatenation.read_several.Given as goal

abbrev pub invariant-loop-selector : goal.invariant-loop-selector
invariant-loop-selector l = Ahead l.number l.selectors l.selector-index l.facts
