use Rattle.chain_graph.proofs.Names.{ap, arith, calls_in, false, get_or, graph_of, length, length-set, node_of, some_call, subst, sym, ℕ, ◌<◌, ◌↔◌, ◌∙◌}
use Rattle.std.proofs.Common.{◌||◌}
use Rattle.std.specs.Prelude.{IsTrue}
use Rattle.chain_graph.specs.Measures.{ReachesMarked}
use Rattle.chain_graph.proofs.ReachLaws.{reaching-now}
use Rattle.chain_graph.proofs.NodeLaws.{all-before, pass-below, pass-more, pass-node, pass-within}
use Rattle.chain_graph.proofs.reaching.reaches_marked.Goals as goal

pub node_reaches-is_reaching-requires : goal.node_reaches-is_reaching-requires
node_reaches-is_reaching-requires c =
    pass-within c.args.nodes.now c.args.order.now c.loop-node.node-index c.index-nodes-node.result c.requires.order (omega arith)
    c.index-nodes-node.is c.requires.range c.loop-node.invariant.long c.deref.ensures.value

pub loop-node-preserved : goal.loop-node-preserved
loop-node-preserved c =
    let inside : c.loop-node.node-index < length c.args.order.now = omega arith in
    let node = pass-node c.args.nodes.now c.args.order.now c.loop-node.node-index c.index-nodes-node.result c.requires.order inside c.index-nodes-node.is in
    let at : ℕ = get_or c.args.order.now c.loop-node.node-index 0 in
    let made = c.node_reaches-is_reaching.ensures
    ∙ ap (λ xs. get_or c.args.marked.now at false || some_call (λ k. get_or xs k false) (calls_in (node_of c.index-nodes-node.result))) c.deref.ensures.value
    ∙ ap (λ n. get_or c.args.marked.now at false || some_call (λ k. get_or c.loop-node.reaching.items k false) (calls_in n)) node in
    record {
      long = length-set c.loop-node.reaching.items _ c.node_reaches-is_reaching.result ∙ c.loop-node.invariant.long;
      known = pass-more c.args.nodes.now c.args.order.now c.loop-node.node-index c.index-nodes-node.result c.requires.order inside c.index-nodes-node.is
          (λ k b. IsTrue b ↔ ReachesMarked (graph_of c.args.nodes.now) c.args.marked.now k) c.loop-node.reaching.items
          c.node_reaches-is_reaching.result false c.loop-node.invariant.long
          (λ known. subst (λ b. IsTrue b ↔ ReachesMarked (graph_of c.args.nodes.now) c.args.marked.now at) (sym made)
          (reaching-now (graph_of c.args.nodes.now) c.args.marked.now at c.loop-node.reaching.items known))
          c.loop-node.invariant.known;
    }

pub returns-clause-reaching : goal.returns-clause-reaching
returns-clause-reaching c = λ x h. c.loop-node.invariant.known x (all-before _ _ _ x c.requires.order (omega arith) h)

pub bounds-nodes-node : goal.bounds-nodes-node
bounds-nodes-node c = pass-below c.args.nodes.now c.args.order.now c.loop-node.node-index c.requires.order (omega arith)

pub index_mut-requires : goal.index_mut-requires
index_mut-requires c =
    omega (arith, pass-below c.args.nodes.now c.args.order.now c.loop-node.node-index c.requires.order (omega arith), c.loop-node.invariant.long)
