use Rattle.std.proofs.Common.{arith}
use Rattle.box_file.proofs.ListLaws.{taken_if}
use Rattle.box_file.proofs.by_kind.lines_by_kind.Goals as goal

pub loop-line-preserved : goal.loop-line-preserved
loop-line-preserved c =
    grind (arith, c.args.lines.now, c.loop-line.line-index, c.loop-line-test.true, c.line-item.is, c.loop-line.invariant, c.in_ok-add.ensures, taken_if)
