use Rattle.std.proofs.Common.{[], subst, sym}
use Rattle.set_lines.specs.steps.Parts.{AreWaysOf}
use Rattle.set_lines.proofs.WayLaws.{piece_at, ways_more, ways_none}
use Rattle.set_lines.proofs.ways.ways.Goals as goal

pub loop-piece-init : goal.loop-piece-init
loop-piece-init c =
    subst (λ xs. AreWaysOf c.args.diagrams.now c.args.set c.args.field [] xs) (sym c.new-ways.ensures.items)
    (ways_none c.args.diagrams.now c.args.set c.args.field [])

pub loop-piece-preserved : goal.loop-piece-preserved
loop-piece-preserved c =
    let d = c.args.diagrams.now in
    let are = rw c.in-Some-2.is at c.in_ok-pieces.ensures in
    let is =
    piece_at d c.args.set c.args.field c.in-Some.numbers.low c.in-Some-2.pieces.items c.deref-piece-items.result.now c.loop-piece.piece-index
    c.piece-item.result are c.in-Some.ensures.low c.deref-piece-items.ensures.value c.loop-piece-test.true c.piece-item.is in
    ways_more d c.args.set c.args.field c.deref-piece-items.result.now c.loop-piece.piece-index c.piece-item.result c.loop-piece.ways.items
    c.add.new.ways.items c.loop-piece-test.true c.piece-item.is c.loop-piece.invariant
    (c.in_ok-add.ensures.ways d c.args.set c.args.field c.loop-piece.invariant.each is) c.in_ok-add.ensures.added
