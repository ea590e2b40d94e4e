use Rattle.aged_tracker.proofs.Names.{arith, off, pushed}
use Rattle.aged_tracker.proofs.Lists.{last_stays, oldest_pushed, relists_last, relists_then}
use Rattle.std.proofs.Common.{eqb-true}
use Rattle.aged_tracker.proofs.aged_slots.requeue.Goals as goal

pub push_back-requires-clause-rings : goal.push_back-requires-clause-rings
push_back-requires-clause-rings c = (off c.args.key c.requires.rings.0, c.take_out.ensures.relists.rings c.requires.rings.0 c.requires.rings.1)

pub returns-then-is_last-clause-relists : goal.returns-then-is_last-clause-relists
returns-then-is_last-clause-relists c = grind (arith, relists_last, c.requires.range, eqb-true, c.is_last.ensures, c.if-is_last.true, c.requires.rings)

pub returns-then-is_last-clause-oldest : goal.returns-then-is_last-clause-oldest
returns-then-is_last-clause-oldest c lists rings oldest q range front is =
    grind (arith, last_stays, c.requires.range, eqb-true, c.is_last.ensures, c.if-is_last.true)

pub returns-clause-relists : goal.returns-clause-relists
returns-clause-relists c =
    relists_then _ _ _ _ _ _ c.args.key _ _ (off c.args.key) (pushed c.args.key c.args.queue) c.take_out.ensures.relists
    c.push_back.ensures.relists

pub returns-clause-oldest : goal.returns-clause-oldest
returns-clause-oldest c lists rings oldest = oldest_pushed c.args.key c.args.queue _ (off c.args.key lists) c.take_out.new.oldest
    (λ q range front is d. c.take_out.ensures.oldest lists rings oldest q range front is)
