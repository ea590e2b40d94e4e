use Rattle.chain_graph.proofs.Names.{deepest, drop, flat_map, get_or, identity, max, statements_of, ◌≡◌}
use Rattle.chain_graph.proofs.depths.chain_depth.Given as goal

abbrev pub invariant-loop-calls : goal.invariant-loop-calls
invariant-loop-calls l =
    max l.most (deepest (λ c. get_or l.depths c 0)
    (flat_map identity (statements_of (drop l.calls-index l.statements))))
    ≡ deepest (λ c. get_or l.depths c 0) (flat_map identity (statements_of l.statements))
