use Rattle.chain_graph.proofs.Names.{New, [], get_or, rows_of, ℕ, ◌<◌, ◌≡◌, ◌≢◌}
use Rattle.chain_graph.specs.steps.Search.{IsSearch}
use Rattle.chain_graph.proofs.search.topological_sort.Given as goal

abbrev pub invariant-loop-root : goal.invariant-loop-root
invariant-loop-root l = record {
  search : IsSearch (rows_of l.targets) l.search;
  path : l.search.path.items ≡ [];
  visited : (c : ℕ) → c < l.root → get_or l.search.marks.items c New ≢ New;
}
