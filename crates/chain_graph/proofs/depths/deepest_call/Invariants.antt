use Rattle.chain_graph.proofs.Names.{call_of, deepest, drop, get_or, map, max, ◌≡◌}
use Rattle.chain_graph.proofs.depths.deepest_call.Given as goal

abbrev pub invariant-loop-call : goal.invariant-loop-call
invariant-loop-call l = max l.most (deepest (λ c. get_or l.depths c 0) (map call_of (drop l.call-index l.calls)))
    ≡ deepest (λ c. get_or l.depths c 0) (map call_of l.calls)
