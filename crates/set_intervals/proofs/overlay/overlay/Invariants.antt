use Rattle.std.proofs.Common.{ℕ, List, ◌<◌, ◌++◌, length, get_or, drop}
use Rattle.set_intervals.specs.declared.range.Range.{Range}
use Rattle.set_intervals.specs.steps.Pieces.{IsTable}
use Rattle.set_intervals.specs.steps.Layers.{EndsBefore, Follows, SameFirstValues}
use Rattle.set_intervals.proofs.overlay.overlay.Given as goal

-- what is left of both lists is above the pieces; together they have the first values of the start
pub record Laid {V : Type 0} (pieces left lower : List (Range × V)) (i : ℕ) (all : List (Range × V)) : Type 0 where
  pub table : IsTable pieces
  pub follows : Follows pieces left
  pub before : (d : Range × V) → i < length lower → EndsBefore pieces (get_or lower i d).0.low
  pub first_values : SameFirstValues (pieces ++ (left ++ drop i lower)) all

abbrev pub invariant-loop-range : goal.invariant-loop-range
invariant-loop-range g l = Laid l.pieces.items l.left l.lower l.range-index (l.fn.upper ++ l.lower)
