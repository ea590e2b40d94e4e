use Rattle.box_file.proofs.Names.{append-nil, interface_tree, line_tree, map, map_push, route_entry, route_of_line, sym}
use Rattle.box_file.proofs.ListLaws.{IsAt, taken_if}
use Rattle.box_file.proofs.network.routes.Goals as goal
use Rattle.box_file.proofs.network.routes.Goals.{in-Some+in_ok-push, in_default}

pub loop-line-preserved : goal.loop-line-preserved
loop-line-preserved c =
    let old = c.loop-line.found.items in
    let here : IsAt c.args.lines.now c.loop-line.line-index c.line-item.result =
    record { within = c.loop-line-test.true; item = c.line-item.is } in
    taken_if line_tree (route_of_line (map interface_tree c.args.interfaces.now)) here c.loop-line.invariant
    (elim c.match-route_of_line.branch [
      | in-Some+in_ok-push w ↦ rw (← c.route_of_line.ensures, w.in-Some.is, w.found-is, w.in_ok-push.ensures.items)
          (map_push route_entry old w.in-Some.route)
      | in_default w ↦ rw (← c.route_of_line.ensures, w.in_default.is, w.found-is) (sym (append-nil (map route_entry old)))
    ])
