use Rattle.lowering.proofs.Names.{arith, drop_all}
use Rattle.lowering.proofs.Remaining.{next}
use Rattle.lowering.proofs.matches.flags_of.Goals as goal

pub loop-flag-preserved : goal.loop-flag-preserved
loop-flag-preserved c = rw c.flag_number-bits.ensures
    (rw (next c.args.flags.now c.loop-flag.flag-index c.flag-item.result c.loop-flag-test.true c.flag-item.is) at c.loop-flag.invariant)

pub returns : goal.returns
returns c = rw (drop_all c.loop-flag.flag-index c.args.flags.now (omega arith)) at c.loop-flag.invariant
