use Rattle.set_texts.specs.Indented.{AreIndented}
use Rattle.set_texts.proofs.texts.SetWords.put_sets.Given as goal

abbrev pub invariant-loop-set : goal.invariant-loop-set
invariant-loop-set l = AreIndented l.text.items
