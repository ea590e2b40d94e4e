use Rattle.std.proofs.Common.{arith}
use Rattle.box_file.proofs.Names.{drop_all, drop, map, route_entry, sym, subst, ◌+◌}
use Rattle.box_file.proofs.BestLaws.{SplitFirst, split_more}
use Rattle.box_file.proofs.routes.pairs_of.Goals as goal

pub loop-route-preserved : goal.loop-route-preserved
loop-route-preserved c =
    let routes = c.args.routes.now in
    let i = c.loop-route.route-index in
    subst (λ pairs. SplitFirst pairs (map route_entry (drop (i + 1) routes)) (map route_entry routes)) (sym c.in_ok-push.ensures.items)
    (split_more c.loop-route.pairs.items routes i _ c.range_of.result c.loop-route-test.true c.range_of.ensures.low
    c.range_of.ensures.high c.loop-route.invariant)

pub returns : goal.returns
returns c = λ a. grind (arith, drop_all, c.loop-route-test.false, c.loop-route.invariant a)
