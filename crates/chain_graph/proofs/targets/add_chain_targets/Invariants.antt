use Rattle.chain_graph.proofs.Names.{drop, flat_map, identity, map, statements_of, ◌++◌, ◌≡◌}
use Rattle.chain_graph.proofs.targets.add_chain_targets.Given as goal

abbrev pub invariant-loop-calls : goal.invariant-loop-calls
invariant-loop-calls l = l.targets.items ++ map (λ e. e.to)
    (flat_map identity (statements_of (drop l.calls-index l.statements))) ≡ l.initial.targets.items
    ++ map (λ e. e.to) (flat_map identity (statements_of l.statements))
