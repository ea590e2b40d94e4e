use Rattle.chain_graph.proofs.Names.{ap, arith, get_or, graph_of, length, length-set, node_of, saturated, ◌<◌, ◌∙◌, ◌≡◌}
use Rattle.chain_graph.specs.Graph.{node_cost}
use Rattle.chain_graph.proofs.CostLaws.{cost-now}
use Rattle.chain_graph.proofs.NodeLaws.{all-before, graph-long, pass-below, pass-more, pass-node, pass-within}
use Rattle.chain_graph.proofs.costs.node_costs.Goals as goal

pub node_cost-cost-requires : goal.node_cost-cost-requires
node_cost-cost-requires c =
    pass-within c.args.nodes.now c.args.order.now c.loop-node.node-index c.index-nodes-node.result c.requires.order (omega arith)
    c.index-nodes-node.is c.requires.range c.loop-node.invariant.long c.deref.ensures.value

pub loop-node-preserved : goal.loop-node-preserved
loop-node-preserved c =
    let inside : c.loop-node.node-index < length c.args.order.now = omega arith in
    let node = pass-node c.args.nodes.now c.args.order.now c.loop-node.node-index c.index-nodes-node.result c.requires.order inside c.index-nodes-node.is in
    let below = pass-below c.args.nodes.now c.args.order.now c.loop-node.node-index c.requires.order inside in
    let long = graph-long c.args.nodes.now in
    let made = c.node_cost-cost.ensures
    ∙ ap (λ xs. saturated (node_cost (λ k. get_or xs k 0) (node_of c.index-nodes-node.result))) c.deref.ensures.value
    ∙ ap (λ n. saturated (node_cost (λ k. get_or c.loop-node.costs.items k 0) n)) node in
    record {
      long = length-set c.loop-node.costs.items _ c.node_cost-cost.result ∙ c.loop-node.invariant.long;
      known = λ cost of. pass-more c.args.nodes.now c.args.order.now c.loop-node.node-index c.index-nodes-node.result c.requires.order inside
          c.index-nodes-node.is (λ x v. v ≡ saturated (cost x)) c.loop-node.costs.items c.node_cost-cost.result 0 c.loop-node.invariant.long
          (λ known. made ∙ cost-now (graph_of c.args.nodes.now) _ c.loop-node.costs.items cost of (omega arith) known)
          (c.loop-node.invariant.known cost of);
    }

pub returns-clause-costs : goal.returns-clause-costs
returns-clause-costs c = λ cost of x h. c.loop-node.invariant.known cost of x (all-before _ _ _ x c.requires.order (omega arith) h)

pub bounds-nodes-node : goal.bounds-nodes-node
bounds-nodes-node c = pass-below c.args.nodes.now c.args.order.now c.loop-node.node-index c.requires.order (omega arith)

pub index_mut-requires : goal.index_mut-requires
index_mut-requires c =
    omega (arith, pass-below c.args.nodes.now c.args.order.now c.loop-node.node-index c.requires.order (omega arith), c.loop-node.invariant.long)
