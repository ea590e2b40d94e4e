use Rattle.lowering.proofs.Names.{arith}
use Rattle.lowering.proofs.Widths.{none-before}
use Rattle.lowering.proofs.keys.appended.Goals as goal

pub returns-then-bits-ge128 : goal.returns-then-bits-ge128
returns-then-bits-ge128 c = grind (arith, none-before, c.width-bits.ensures, c.if-bits-ge128.true)
