use Rattle.lowering.proofs.Names.{arith, drop_all}
use Rattle.lowering.proofs.Remaining.{next}
use Rattle.lowering.proofs.matches.bits_of.Goals as goal

pub loop-word-preserved : goal.loop-word-preserved
loop-word-preserved c = rw (c.word_number-bits.ensures, c.deref.ensures.value)
    (rw (next c.args.words.now c.loop-word.word-index c.word-item.result c.loop-word-test.true c.word-item.is) at c.loop-word.invariant)

pub returns : goal.returns
returns c = rw (drop_all c.loop-word.word-index c.args.words.now (omega arith)) at c.loop-word.invariant
