use Rattle.box_file.proofs.Names.{IfOk-weaker, ap, first_interface, first_value, map, route_entry, ◌∙◌}
use Rattle.box_file.proofs.BestLaws.{first_is_best_interface}
use Rattle.box_file.proofs.routes.table.Goals as goal

pub returns : goal.returns
returns c = IfOk-weaker c.first_wins.result _ _ (λ table says a.
    says a
    ∙ ap (λ pairs. first_value pairs a) c.deref-2.ensures.value
    ∙ c.in_ok-pairs.ensures a
    ∙ ap (λ routes. first_interface (map route_entry routes) a) c.deref.ensures.value
    ∙ first_is_best_interface (map route_entry c.args.routes.now)
    (map route_entry c.in_ok-sorted.sorted.items) c.in_ok-sorted.ensures a) c.first_wins.ensures
