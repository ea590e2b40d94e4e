use Rattle.box_file.proofs.Names.{AreLinesByKind, idle_tree, interface_tree, line_tree, map, route_tree, take}
use Rattle.box_file.proofs.by_kind.lines_by_kind.Given as goal

abbrev pub invariant-loop-line : goal.invariant-loop-line
invariant-loop-line l = AreLinesByKind (map line_tree (take l.line-index l.lines)) (map interface_tree l.by_kind.interfaces.items)
    (map route_tree l.by_kind.routes.items) (map (λ n. n.now) l.by_kind.defaults.items) (map idle_tree l.by_kind.idles.items)
