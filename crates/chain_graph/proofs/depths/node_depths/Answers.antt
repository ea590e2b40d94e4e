use Rattle.chain_graph.proofs.Names.{ap, arith, calls_in, deepest, get_or, graph_of, length, length-set, node_of, subst, sym, ◌<◌, ◌∙◌}
use Rattle.chain_graph.specs.Measures.{IsDepth}
use Rattle.chain_graph.proofs.DepthLaws.{depth-now}
use Rattle.chain_graph.proofs.NodeLaws.{all-before, pass-below, pass-more, pass-node, pass-within}
use Rattle.chain_graph.proofs.depths.node_depths.Goals as goal

pub node_depth-depth-requires : goal.node_depth-depth-requires
node_depth-depth-requires c =
    pass-within c.args.nodes.now c.args.order.now c.loop-node.node-index c.index-nodes-node.result c.requires.order (omega arith)
    c.index-nodes-node.is c.requires.range c.loop-node.invariant.long c.deref.ensures.value

pub loop-node-preserved : goal.loop-node-preserved
loop-node-preserved c =
    let inside : c.loop-node.node-index < length c.args.order.now = omega arith in
    let node = pass-node c.args.nodes.now c.args.order.now c.loop-node.node-index c.index-nodes-node.result c.requires.order inside c.index-nodes-node.is in
    let made = c.node_depth-depth.ensures
    ∙ ap (λ xs. deepest (λ k. get_or xs k 0) (calls_in (node_of c.index-nodes-node.result))) c.deref.ensures.value
    ∙ ap (λ n. deepest (λ k. get_or c.loop-node.depths.items k 0) (calls_in n)) node in
    record {
      long = length-set c.loop-node.depths.items _ c.node_depth-depth.result ∙ c.loop-node.invariant.long;
      known = pass-more c.args.nodes.now c.args.order.now c.loop-node.node-index c.index-nodes-node.result c.requires.order inside c.index-nodes-node.is
          (IsDepth (graph_of c.args.nodes.now)) c.loop-node.depths.items c.node_depth-depth.result 0 c.loop-node.invariant.long
          (λ known. subst (IsDepth (graph_of c.args.nodes.now) _) (sym made) (depth-now (graph_of c.args.nodes.now) _ c.loop-node.depths.items known))
          c.loop-node.invariant.known;
    }

pub returns-clause-depths : goal.returns-clause-depths
returns-clause-depths c = λ x h. c.loop-node.invariant.known x (all-before _ _ _ x c.requires.order (omega arith) h)

pub bounds-nodes-node : goal.bounds-nodes-node
bounds-nodes-node c = pass-below c.args.nodes.now c.args.order.now c.loop-node.node-index c.requires.order (omega arith)

pub index_mut-requires : goal.index_mut-requires
index_mut-requires c =
    omega (arith, pass-below c.args.nodes.now c.args.order.now c.loop-node.node-index c.requires.order (omega arith), c.loop-node.invariant.long)
