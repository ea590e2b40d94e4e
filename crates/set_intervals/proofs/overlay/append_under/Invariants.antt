use Rattle.std.proofs.Common.{◌≡◌, List, [], ◌∷◌, ◌++◌, length}
use Rattle.set_intervals.specs.declared.range.Range.{Range}
use Rattle.set_intervals.specs.steps.Pieces.{IsTable}
use Rattle.set_intervals.specs.steps.Layers.{EndsBefore, Follows, SameFirstValues}
use Rattle.set_intervals.proofs.overlay.append_under.Given as goal

-- what is left of the upper pieces and of the range is above the pieces; together they have the first values of the start
pub record Laid {V : Type 0} (pieces left : List (Range × V)) (rest : Range) (value : V) (range : Range) (all : List (Range × V)) : Type 0 where
  pub table : IsTable pieces
  pub before : EndsBefore pieces rest.low
  pub follows : Follows pieces left
  pub end : rest.high ≡ range.high
  pub first_values : SameFirstValues (pieces ++ (left ++ (rest, value) ∷ [])) all

abbrev pub invariant-loop-left : goal.invariant-loop-left
invariant-loop-left g l = Laid l.pieces.items l.left l.rest l.value l.fn.range (l.fn.pieces.items ++ (l.fn.upper ++ (l.fn.range, l.value) ∷ []))

abbrev pub decreases-loop-left : goal.decreases-loop-left
decreases-loop-left g l = length l.left
