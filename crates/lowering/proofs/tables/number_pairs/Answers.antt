use Rattle.lowering.proofs.Names.{arith, drop_all}
use Rattle.lowering.proofs.Entries.{or-none, or-twice}
use Rattle.lowering.proofs.Remaining.{next}
use Rattle.lowering.proofs.tables.number_pairs.Goals as goal

pub loop-pair-preserved : goal.loop-pair-preserved
loop-pair-preserved c n = rw (c.in_ok-push_entry.ensures n, c.number_entry.ensures n, or-twice)
    (rw (next c.args.pairs.now c.loop-pair.pair-index c.pair-item.result c.loop-pair-test.true c.pair-item.is)
    at (c.loop-pair.invariant n))

pub returns : goal.returns
returns c n = rw (drop_all c.loop-pair.pair-index c.args.pairs.now (omega arith), or-none) at (c.loop-pair.invariant n)
