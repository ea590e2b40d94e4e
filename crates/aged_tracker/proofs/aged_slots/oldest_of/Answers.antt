use Rattle.aged_tracker.proofs.Names.{arith, common_steps, none-some, same_Some, sym, ◌∙◌}
use Rattle.aged_tracker.proofs.aged_slots.oldest_of.Goals as goal

pub returns-in-None-clause-oldest : goal.returns-in-None-clause-oldest
returns-in-None-clause-oldest c lists front rings is = absurd (none-some front (c.in-None.ensures c.args.slots.now lists rings ∙ is))

pub returns-in-None-last-clause-oldest : goal.returns-in-None-last-clause-oldest
returns-in-None-last-clause-oldest c lists front rings is =
    rw (sym (same_Some c.in-Some.key front (c.in-Some.ensures c.args.slots.now lists rings ∙ is))) (grind (arith, common_steps))

pub returns-in-Some-last-clause-oldest : goal.returns-in-Some-last-clause-oldest
returns-in-Some-last-clause-oldest c lists front rings is =
    rw (sym (same_Some c.in-Some.key front (c.in-Some.ensures c.args.slots.now lists rings ∙ is))) (grind (arith, common_steps))
