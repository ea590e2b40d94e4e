use Rattle.std.proofs.Common.{◌≡◌, length, map, arith}
use Rattle.std.proofs.lemmas.List.{length-map}
use Rattle.fault_nodes.proofs.Spots.{weight_more, past_end}
use Rattle.fault_nodes.proofs.locating.locate.Goals as goal

pub loop-index-preserved : goal.loop-index-preserved
loop-index-preserved g c = λ weight_of is.
    let more = weight_more weight_of g.T.TreeNode.tree c.args.nodes.now c.loop-index.index
    c.index-nodes-index.result c.loop-index-test.true c.index-nodes-index.is in
    let here = is _ _ c.weight-weight.ensures in
    let before = c.loop-index.invariant weight_of is in
    omega (arith, more, here, before, c.if-rest-weight.false, c.requires.small)

pub returns : goal.returns
returns g c = λ weight_of is.
    let before = c.loop-index.invariant weight_of is in
    let long = length-map c.args.nodes.now g.T.TreeNode.tree in
    let end : c.loop-index.index ≡ length c.args.nodes.now = omega arith in
    record {
      sum = rw end at before;
      within = omega (arith, long);
      inside = past_end (map g.T.TreeNode.tree c.args.nodes.now) _ (length c.args.nodes.now) (omega (arith, long));
    }
