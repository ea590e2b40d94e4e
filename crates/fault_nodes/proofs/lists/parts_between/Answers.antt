use Rattle.std.proofs.Common.{◌≡◌, ◌-◌, ◌<◌, ◌≤◌, min, [], ◌∷◌, ◌++◌, map, ap, ◌∙◌, arith}
use Rattle.std.proofs.lemmas.List.{map-append}
use Rattle.fault_nodes.proofs.PartLists.{between_less, between_more}
use Rattle.fault_nodes.proofs.lists.parts_between.Goals as goal
use Rattle.fault_nodes.proofs.lists.parts_between.Goals.{then-from-min+in_ok-between+in_ok-push, else-from-min}

pub loop-node-preserved : goal.loop-node-preserved
loop-node-preserved g c =
    let model = g.T.PartNode.tree in
    let parts_of = g.T.PartNode.parts_of in
    let node = c.node-item.result in
    let from = c.loop-node.from in
    let to = c.loop-node.to in
    let done = c.loop-node.copies.items in
    let below_from = c.loop-node.invariant.0 in
    let below_to = c.loop-node.invariant.1 in
    let same_min : c.min.result ≡ min to (parts_of (model node))
    = omega (arith, c.min.ensures, c.parts-parts.ensures, below_to, c.ranges.to.fits) in
    let next_from : c.saturating_sub-from.result ≡ from - parts_of (model node)
    = omega (arith, c.parts-parts.ensures, c.saturating_sub-from.ensures, below_from, c.ranges.from.fits) in
    let next_to : c.saturating_sub-to.result ≡ to - parts_of (model node)
    = omega (arith, c.parts-parts.ensures, c.saturating_sub-to.ensures, below_to, c.ranges.to.fits) in (
      omega (arith, next_from, below_from),
      omega (arith, next_to, below_to),
      elim c.if-from-min.branch [
        | then-from-min+in_ok-between+in_ok-push w ↦ (let copied : map model c.if-from-min.copies.items
            ≡ map model done ++ g.T.PartNode.cut from to (model node) ∷ []
            = ap (λ v. map model v.items) w.copies-is
            ∙ ap (map model) w.in_ok-push.ensures.items
            ∙ map-append model done (w.in_ok-between.field-0 ∷ [])
            ∙ ap (λ y. map model done ++ y ∷ []) w.in_ok-between.ensures in
            let some : from < min to (parts_of (model node)) = omega (arith, same_min, w.if-from-min.true) in
            rw (copied, next_from, next_to) (between_more model parts_of g.T.PartNode.cut from to c.args.nodes.now
            c.loop-node.node-index node _ _ c.loop-node-test.true c.node-item.is some c.loop-node.invariant.2))
        | else-from-min w ↦ (let none : min to (parts_of (model node)) ≤ from
            = omega (arith, same_min, w.if-from-min.false) in
            rw (w.copies-is, next_from, next_to) (between_less model parts_of g.T.PartNode.cut from to c.args.nodes.now
            c.loop-node.node-index node _ _ c.loop-node-test.true c.node-item.is none c.loop-node.invariant.2))
      ],
    )
