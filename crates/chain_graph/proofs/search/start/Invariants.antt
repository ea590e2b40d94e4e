use Rattle.chain_graph.proofs.Names.{length, map, take, ◌≡◌}
use Rattle.chain_graph.proofs.search.start.Given as goal

-- how many targets each row so far has
abbrev pub invariant-loop-row : goal.invariant-loop-row
invariant-loop-row l = l.left.items ≡ map (λ r. length r.items) (take l.row-index l.targets)
