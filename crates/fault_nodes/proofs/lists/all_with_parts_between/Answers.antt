use Rattle.std.proofs.Common.{◌≡◌, ◌-◌, [], ◌∷◌, ◌++◌, map, ap, ◌∙◌, arith}
use Rattle.std.proofs.lemmas.List.{map-append}
use Rattle.fault_nodes.proofs.PartLists.{all_more}
use Rattle.fault_nodes.proofs.lists.all_with_parts_between.Goals as goal

pub loop-node-preserved : goal.loop-node-preserved
loop-node-preserved g c =
    let model = g.T.PartNode.tree in
    let node = c.node-item.result in
    let from = c.loop-node.from in
    let to = c.loop-node.to in
    let done = c.loop-node.copies.items in
    let copied : map model c.push.new.self.items ≡ map model done ++ g.T.PartNode.cut from to (model node) ∷ []
    = ap (map model) c.in_ok-push.ensures.items
    ∙ map-append model done (c.in_ok-between.field-0 ∷ [])
    ∙ ap (λ y. map model done ++ y ∷ []) c.in_ok-between.ensures in
    let next_from : c.saturating_sub-from.result ≡ from - g.T.PartNode.parts_of (model node)
    = omega (arith, c.parts-parts.ensures, c.saturating_sub-from.ensures, c.loop-node.invariant.0, c.ranges.from.fits) in
    let next_to : c.saturating_sub-to.result ≡ to - g.T.PartNode.parts_of (model node)
    = omega (arith, c.parts-parts.ensures, c.saturating_sub-to.ensures, c.loop-node.invariant.1, c.ranges.to.fits) in (
      omega (arith, next_from, c.loop-node.invariant.0),
      omega (arith, next_to, c.loop-node.invariant.1),
      rw (copied, next_from, next_to) (all_more model g.T.PartNode.parts_of g.T.PartNode.cut from to c.args.nodes.now
          c.loop-node.node-index node _ _ c.loop-node-test.true c.node-item.is c.loop-node.invariant.2),
    )
