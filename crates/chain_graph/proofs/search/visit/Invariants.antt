use Rattle.chain_graph.proofs.Names.{New, get_or, rows_of, ◌≢◌}
use Rattle.chain_graph.specs.steps.Search.{IsSearch, KeepsVisited, remaining_work}
use Rattle.chain_graph.proofs.search.visit.Given as goal

abbrev pub invariant-loop-last : goal.invariant-loop-last
invariant-loop-last l = record {
  search : IsSearch (rows_of l.targets) l.search;
  root_visited : get_or l.search.marks.items l.root New ≢ New;
  visited : KeepsVisited l.fn.search.marks.items l.search.marks.items;
}

abbrev pub decreases-loop-last : goal.decreases-loop-last
decreases-loop-last l = remaining_work l.search
