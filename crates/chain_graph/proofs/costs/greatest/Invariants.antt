use Rattle.chain_graph.proofs.Names.{call_of, drop, get_or, map, max, ◌≡◌}
use Rattle.chain_graph.specs.Graph.{greatest}
use Rattle.chain_graph.proofs.costs.greatest.Given as goal

abbrev pub invariant-loop-call : goal.invariant-loop-call
invariant-loop-call l = max l.most (greatest (λ c. get_or l.costs c 0) (map call_of (drop l.call-index l.calls)))
    ≡ greatest (λ c. get_or l.costs c 0) (map call_of l.calls)
