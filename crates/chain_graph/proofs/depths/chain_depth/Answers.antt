use Rattle.chain_graph.proofs.Names.{ap, arith, call_of, deepest, drop, flat_map, get_or, identity, map, max, statements_of, ℕ, ◌+◌, ◌∙◌, ◌≡◌}
use Rattle.std.proofs.Common.{rules}
use Rattle.chain_graph.proofs.DepthLaws.{deepest-append}
use Rattle.chain_graph.proofs.NodeLaws.{calls-rest}
use Rattle.chain_graph.proofs.depths.chain_depth.Goals as goal

pub loop-calls-preserved : goal.loop-calls-preserved
loop-calls-preserved c =
    let rest = flat_map identity (statements_of (drop (c.loop-calls.calls-index + 1) c.args.statements.now)) in
    let split = ap (deepest (λ (k : ℕ). get_or c.args.depths.now k 0))
    (calls-rest c.args.statements.now c.loop-calls.calls-index c.calls-item.result (omega arith) c.calls-item.is)
    ∙ deepest-append (λ (k : ℕ). get_or c.args.depths.now k 0) (map call_of c.calls-item.result.items) rest in
    let here = c.deepest_call.ensures ∙ ap (λ xs. deepest (λ (k : ℕ). get_or c.args.depths.now k 0) (map call_of xs)) c.deref.ensures.value in
    let now : c.max-most.result ≡ max c.loop-calls.most c.deepest_call.result = search rules in
    let before = c.loop-calls.invariant in
    omega arith
