use Rattle.aged_tracker.proofs.Names.{Previous, ap, eqb, neighbour, ◌+◌, ◌∙◌}
use Rattle.aged_tracker.proofs.linked_lists.is_last.Goals as goal

pub returns : goal.returns
returns c slots = ap (λ node. eqb node (5 + c.args.key)) (c.number.ensures ∙ ap (neighbour Previous) (c.head_link.ensures slots))
