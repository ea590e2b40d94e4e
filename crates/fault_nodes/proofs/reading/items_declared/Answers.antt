use Rattle.std.proofs.Common.{map, take, sym, ap, ◌∙◌}
use Rattle.std.proofs.lemmas.List.{take_all, take_min, take-map}
use Rattle.std.proofs.lemmas.Simd.{map-map}
use Rattle.nft_tree.specs.TreeViews.{item_tree}
use Rattle.fault_nodes.specs.ReadParts.{item_between}
use Rattle.fault_nodes.proofs.reading.items_declared.Goals as goal

pub returns : goal.returns
returns c =
    let kept = take c.min.result c.args.items.now in
    c.loop-item.invariant
    ∙ ap (map (λ item. item_between 0 0 (item_tree item))) (take_all c.loop-item.item-index kept c.loop-item-test.false)
    ∙ ap (λ n. map (λ item. item_between 0 0 (item_tree item)) (take n c.args.items.now)) c.min.ensures
    ∙ ap (map (λ item. item_between 0 0 (item_tree item))) (take_min c.args.count c.args.items.now)
    ∙ sym (ap (map (item_between 0 0)) (take-map item_tree c.args.count c.args.items.now)
    ∙ map-map (item_between 0 0) item_tree (take c.args.count c.args.items.now))
