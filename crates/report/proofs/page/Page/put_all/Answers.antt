use Rattle.report.proofs.Imports.{piece_text}
use Rattle.report.proofs.Putting.{left_on}
use Rattle.report.proofs.page.Page.put_all.Goals as goal

pub loop-piece-preserved : goal.loop-piece-preserved
loop-piece-preserved g c = left_on piece_text _ _ _ c.loop-piece-test.true c.loop-piece.invariant c.put_piece.ensures
