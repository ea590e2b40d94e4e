use Rattle.std.proofs.Common.{map, ap, ◌∙◌}
use Rattle.std.specs.List.{slice_range}
use Rattle.std.proofs.lemmas.List.{take_all}
use Rattle.fault_nodes.proofs.Ranges.{range_inside, range-map}
use Rattle.fault_nodes.proofs.lists.nodes_between.Goals as goal

pub returns : goal.returns
returns g c =
    let model = g.T.TreeNode.tree in
    let nodes = c.args.nodes.now in
    let kept = slice_range nodes c.min.result c.min-end.result in
    c.loop-node.invariant ∙ ap (map model) (take_all c.loop-node.node-index kept c.loop-node-test.false)
    ∙ ap (map model) (range_inside c.args.from c.args.to c.min.result c.min-end.result nodes c.min-end.ensures c.min.ensures)
    ∙ range-map model c.args.from c.args.to nodes
