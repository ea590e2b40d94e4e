use Rattle.ruleset_diff.proofs.Adding.{BitsTo}
use Rattle.ruleset_diff.proofs.pieces.add_unlike_marks.Given as goal

abbrev pub invariant-loop-place : goal.invariant-loop-place
invariant-loop-place l = BitsTo l.initial.diagrams l.diagrams l.set l.initial.pieces.items l.pieces.items l.place
