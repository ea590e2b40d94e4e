use Rattle.std.proofs.Common.{◌≡◌, take}
use Rattle.set_intervals.specs.steps.Pieces.{highs}
use Rattle.set_intervals.proofs.table.level_of.Given as goal

abbrev pub invariant-loop-range : goal.invariant-loop-range
invariant-loop-range g l = l.highs.items ≡ highs (take l.range-index l.pieces)
