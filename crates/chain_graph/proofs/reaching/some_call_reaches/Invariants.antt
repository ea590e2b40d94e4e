use Rattle.chain_graph.proofs.Names.{call_of, drop, false, get_or, map, some_call, ◌≡◌}
use Rattle.chain_graph.proofs.reaching.some_call_reaches.Given as goal

abbrev pub invariant-loop-call : goal.invariant-loop-call
invariant-loop-call l = some_call (λ c. get_or l.reaching c false) (map call_of (drop l.call-index l.calls))
    ≡ some_call (λ c. get_or l.reaching c false) (map call_of l.calls)
