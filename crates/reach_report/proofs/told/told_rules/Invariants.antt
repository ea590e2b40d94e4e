-- What is told of the rules before, and what is left for those behind, is what is told of all.
use Rattle.std.proofs.Common.{◌≡◌, ◌++◌, All, drop, false, map}
use Rattle.reach_report.specs.Told.{AreBelow, reasoned, with_reasons}
use Rattle.reach_report.proofs.told.told_rules.Given as goal

abbrev pub invariant-loop-rule : goal.invariant-loop-rule
invariant-loop-rule l =
    (map reasoned l.told.items ++ with_reasons l.comes (drop l.rule-index l.rules) l.left ≡ with_reasons false l.rules l.unmet)
    × All (λ t. AreBelow l.texts.is_wanted t.below.items) l.told.items
