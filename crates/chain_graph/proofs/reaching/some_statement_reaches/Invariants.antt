use Rattle.chain_graph.proofs.Names.{drop, false, flat_map, get_or, identity, some_call, statements_of, ◌≡◌}
use Rattle.chain_graph.proofs.reaching.some_statement_reaches.Given as goal

abbrev pub invariant-loop-calls : goal.invariant-loop-calls
invariant-loop-calls l = some_call (λ c. get_or l.reaching c false)
    (flat_map identity (statements_of (drop l.calls-index l.statements)))
    ≡ some_call (λ c. get_or l.reaching c false) (flat_map identity (statements_of l.statements))
