use Rattle.box_file.proofs.Names.{ap, interface_tree, is_unknown, lacks, list_any, map, not, refl, route_tree, ◌∙◌, ◌≡◌}
use Rattle.box_file.proofs.CheckLaws.{any-mapped}
use Rattle.box_file.proofs.checks.names_unknown_interface.Goals as goal
use Rattle.box_file.proofs.checks.names_unknown_interface.Goals.{then-has_unknown_route, else-has_unknown_route}

pub returns : goal.returns
returns c =
    let is = map interface_tree c.args.interfaces.now in
    let known = c.in_ok-known.known in
    let knows = c.in_ok-known.ensures in
    let first : c.has_unknown_route.result ≡ list_any (λ r. is_unknown is r.name) (map route_tree c.args.routes.now) =
    c.has_unknown_route.ensures
    ∙ any-mapped route_tree (λ l. lacks known l.name) (λ r. is_unknown is r.name) (λ l. ap not (knows l.name)) c.args.routes.now in
    elim c.if-has_unknown_route.branch [
      | then-has_unknown_route w ↦ rw (w.result-is, ← first, w.if-has_unknown_route.true) refl
      | else-has_unknown_route w ↦ rw (w.result-is, ← first, w.if-has_unknown_route.false)
          (w.has_unknown_default.ensures ∙ any-mapped (λ n. n.now) (lacks known) (is_unknown is) (λ n. ap not (knows n)) c.args.defaults.now)
    ]
