use Rattle.aged_tracker.proofs.Names.{Next, ap, neighbour}
use Rattle.aged_tracker.proofs.Lists.{first_read}
use Rattle.aged_tracker.proofs.linked_lists.front.Goals as goal

pub returns : goal.returns
returns c slots lists rings =
    let is = ap (neighbour Next) (c.head_link.ensures slots) in
    first_read _ _ c.args.list (lists c.args.list) c.key.result c.requires (rings c.args.list c.requires).chained
    (rw is at c.key.ensures.slot) (rw is at c.key.ensures.head)
