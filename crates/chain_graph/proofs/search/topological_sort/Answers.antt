use Rattle.chain_graph.proofs.Names.{New, arith, get_or, rows_of, ◌≢◌}
use borrow.Author.Count.{below_more}
use Rattle.chain_graph.proofs.OrderLaws.{all-done, no-cycle}
use Rattle.chain_graph.proofs.ReadLaws.{rows-long}
use Rattle.chain_graph.proofs.search.topological_sort.Goals as goal

pub returns : goal.returns
returns c =
    let n = rows-long c.args.targets.now in
    let found = all-done (rows_of c.args.targets.now) c.loop-root.search.marks.items c.loop-root.search.left.items
    c.loop-root.search.path.items c.loop-root.search.order.items c.loop-root.invariant.search
    c.loop-root.invariant.path (λ d h. c.loop-root.invariant.visited d (omega arith)) in
    (found, no-cycle (rows_of c.args.targets.now) c.loop-root.search.order.items found)

pub loop-root-preserved : goal.loop-root-preserved
loop-root-preserved c =
    let done = rw c.if-not-branch.false at c.in_ok-visit.ensures.visits in
    record {
      search = done.search;
      path = done.path;
      visited = below_more (λ d. get_or c.visit.new.search.marks.items d New ≢ New) c.loop-root.root
          (λ d h. done.visited.keeps d (c.loop-root.invariant.visited d h)) done.root_visited;
    }
