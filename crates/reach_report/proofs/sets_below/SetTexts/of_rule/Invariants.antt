use Rattle.set_texts.specs.Indented.{AreIndented}
use Rattle.reach_report.proofs.sets_below.SetTexts.of_rule.Given as goal

abbrev pub invariant-loop-base : goal.invariant-loop-base
invariant-loop-base l = AreIndented l.text.items
