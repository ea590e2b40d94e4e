use Rattle.std.proofs.Common.{List, ◌++◌, length}
use Rattle.set_intervals.specs.declared.range.Range.{Range}
use Rattle.set_intervals.specs.steps.Pieces.{IsTable}
use Rattle.set_intervals.specs.steps.Layers.{Follows, SameFirstValues}
use Rattle.set_intervals.proofs.overlay.append_all.Given as goal

pub record Appended {V : Type 0} (pieces left all : List (Range × V)) : Type 0 where
  pub table : IsTable pieces
  pub follows : Follows pieces left
  pub first_values : SameFirstValues (pieces ++ left) all

abbrev pub invariant-loop-left : goal.invariant-loop-left
invariant-loop-left g l = Appended l.pieces.items l.left (l.fn.pieces.items ++ l.fn.further)

abbrev pub decreases-loop-left : goal.decreases-loop-left
decreases-loop-left g l = length l.left
