use Rattle.std.proofs.Common.{drop}
use Rattle.rule_sets.proofs.Advancing.{Sorted}
use Rattle.rule_sets.proofs.progress.Progress.add_parts.Given as goal

-- with the parts that are left
abbrev pub invariant-loop-part : goal.invariant-loop-part
invariant-loop-part l = Sorted l.fn.diagrams l.diagrams l.reader l.last l.parts l.fn.self l.self (drop l.part-index l.part-items)
