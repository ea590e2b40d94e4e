use Rattle.std.proofs.Common.{take}
use Rattle.set_lines.specs.steps.Parts.{AreWaysOf}
use Rattle.set_lines.proofs.ways.ways.Given as goal

abbrev pub invariant-loop-piece : goal.invariant-loop-piece
invariant-loop-piece l = AreWaysOf l.diagrams l.fn.set l.fn.field (take l.piece-index l.piece-items) l.ways.items
