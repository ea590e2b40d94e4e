use Rattle.box_file.proofs.Names.{drop, lacks, list_any, ◌≡◌}
use Rattle.box_file.proofs.checks.has_unknown_route.Given as goal

abbrev pub invariant-loop-route : goal.invariant-loop-route
invariant-loop-route l = list_any (λ r. lacks l.known r.name) (drop l.route-index l.routes) ≡ list_any (λ r. lacks l.known r.name) l.routes
