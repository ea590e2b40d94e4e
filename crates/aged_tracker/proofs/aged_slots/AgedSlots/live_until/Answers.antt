use Rattle.aged_tracker.proofs.Names.{arith}
use Rattle.aged_tracker.proofs.Order.{all_live}
use Rattle.aged_tracker.proofs.aged_slots.AgedSlots.live_until.Goals as goal

pub returns-clause-live : goal.returns-clause-live
returns-clause-live c =
    let all = c.loop-queue.invariant in
    (all.0, all.1, λ moment before. all_live c.args.limits.now c.args.self.now moment (λ q range. all.2 q (omega arith) moment before))
