use Rattle.set_texts.specs.Indented.{AreIndented}
use Rattle.set_texts.proofs.texts.SetWords.put_lines.Given as goal

abbrev pub invariant-loop-line : goal.invariant-loop-line
invariant-loop-line l = AreIndented l.text.items
