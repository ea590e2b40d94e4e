use Rattle.box_file.proofs.Names.{drop, map, route_entry}
use Rattle.box_file.proofs.BestLaws.{SplitFirst}
use Rattle.box_file.proofs.routes.pairs_of.Given as goal

abbrev pub invariant-loop-route : goal.invariant-loop-route
invariant-loop-route l = SplitFirst l.pairs.items (map route_entry (drop l.route-index l.routes)) (map route_entry l.routes)
