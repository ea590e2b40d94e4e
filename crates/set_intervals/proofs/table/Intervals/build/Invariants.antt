use Rattle.std.proofs.Common.{◌<◌, ℕ, List, length, take, get_or}
use Rattle.set_intervals.specs.declared.range.Range.{Range}
use Rattle.set_intervals.specs.Pairs.{SameValues}
use Rattle.set_intervals.specs.steps.Pieces.{IsTable, StartsBefore}
use Rattle.set_intervals.proofs.table.Intervals.build.Given as goal

-- the pieces have the values of the pairs so far, and start no later than the next pair
pub record Built {V : Type 0} (pieces xs : List (Range × V)) (i : ℕ) : Type 0 where
  pub table : IsTable pieces
  pub same : SameValues pieces (take i xs)
  pub before : (d : Range × V) → i < length xs → StartsBefore pieces (get_or xs i d).0.low

abbrev pub invariant-loop-range : goal.invariant-loop-range
invariant-loop-range g l = Built l.pieces.items l.range-items l.range-index
