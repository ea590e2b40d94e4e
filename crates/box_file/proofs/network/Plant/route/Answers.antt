use Rattle.box_file.proofs.Names.{ap, first_value, map, route_entry, ◌∙◌}
use Rattle.box_file.proofs.PlantLaws.{route_found_index}
use Rattle.box_file.proofs.network.Plant.route.Goals as goal

pub returns-clause-index : goal.returns-clause-index
returns-clause-index c =
    let routes = map route_entry c.self.inside.routes.items in
    route_found_index routes c.args.address c.copied.result c.self.invariant.routes_indexed
    (c.copied.ensures ∙ c.find.ensures.first_values ∙ ap (first_value c.self.inside.table) c.from.ensures
    ∙ c.self.invariant.best c.args.address)
