use Rattle.aged_tracker.proofs.Names.{rules, sym}
use Rattle.aged_tracker.proofs.Order.{front_expired, queue_empty, queue_live}
use Rattle.aged_tracker.proofs.aged_slots.AgedSlots.queue_live_until.Goals as goal

pub returns-in-None-clause-live : goal.returns-in-None-clause-live
returns-in-None-clause-live c = (
  search rules,
  λ moment within. queue_empty c.args.limits.now c.args.self.now moment c.args.queue c.requires.table c.requires.range
      (sym (c.in-None.ensures c.args.self.now.slots c.requires.table.rings.0 c.requires.table.rings.1)),
)

pub returns-then-now-until-clause-live : goal.returns-then-now-until-clause-live
returns-then-now-until-clause-live c = (
  search rules,
  λ moment within. queue_live c.args.limits.now c.args.self.now moment c.args.queue c.requires.table c.requires.range
      c.in-Some.key (sym (c.in-Some.ensures c.args.self.now.slots c.requires.table.rings.0 c.requires.table.rings.1)) (search rules) (search rules),
)

pub returns-else-now-until-clause-expired : goal.returns-else-now-until-clause-expired
returns-else-now-until-clause-expired c =
    front_expired c.args.limits.now c.args.self.now c.args.now c.args.queue c.requires.table c.requires.range c.in-Some.key
    (sym (c.in-Some.ensures c.args.self.now.slots c.requires.table.rings.0 c.requires.table.rings.1)) (search rules)
