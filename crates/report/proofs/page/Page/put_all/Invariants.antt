-- the pieces that are left to put
use Rattle.report.proofs.Imports.{PutsAllBut, drop}
use Rattle.report.specs.steps.Paging.{pieces_text}
use Rattle.report.proofs.page.Page.put_all.Given as goal

abbrev pub invariant-loop-piece : goal.invariant-loop-piece
invariant-loop-piece g l = PutsAllBut g.W.Write.contents l.initial.self l.initial.writer l.self l.writer
    (pieces_text (drop l.piece-index l.pieces)) (pieces_text l.pieces)
