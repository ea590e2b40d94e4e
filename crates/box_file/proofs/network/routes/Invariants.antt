use Rattle.box_file.proofs.Names.{filter_map, interface_tree, line_tree, map, route_entry, route_of_line, take, ◌≡◌}
use Rattle.box_file.proofs.network.routes.Given as goal

abbrev pub invariant-loop-line : goal.invariant-loop-line
invariant-loop-line l = map route_entry l.found.items
    ≡ filter_map (route_of_line (map interface_tree l.interfaces)) (map line_tree (take l.line-index l.lines))
