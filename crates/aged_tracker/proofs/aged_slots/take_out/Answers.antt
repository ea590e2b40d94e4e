use Rattle.aged_tracker.proofs.Names.{ap, arith, held_at, last_at, last_by, length, off, rules, ◌∙◌, ◌≡◌}
use Rattle.aged_tracker.proofs.Lists.{held_aside, oldest_left}
use Rattle.aged_tracker.proofs.aged_slots.take_out.Goals as goal

pub returns-clause-oldest : goal.returns-clause-oldest
returns-clause-oldest c lists rings =
    let long : length c.args.oldest.now ≡ 5 = search rules in
    oldest_left c.args.slots.now c.args.queues.now c.args.key c.unlink-left.result c.oldest_of.result (last_at (held_at c.args.slots.now)) lists
    c.args.oldest.now rings c.unlink-left.ensures.owner (omega (arith, long, c.unlink-left.ensures.range))
    (λ front is. c.oldest_of.ensures.oldest (off c.args.key lists) front (c.unlink-left.ensures.relists.rings lists rings) is
    ∙ ap last_by (held_aside c.args.slots.now c.unlink-left.new.slots c.unlink-left.ensures.except_links front))
