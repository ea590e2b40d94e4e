use Rattle.chain_graph.proofs.Names.{List, ap, arith, graph_of, length, rows_of, subst, sym, ℕ, ◌∙◌, ◌≡◌}
use Rattle.chain_graph.specs.declared.search.SortResult.{SortResult}
use Rattle.chain_graph.specs.declared.search.SortResult.TheVariants.{Order}
use Rattle.chain_graph.specs.steps.Search.{IsSortResult}
use Rattle.chain_graph.specs.steps.Targets.{TargetsInRange}
use Rattle.chain_graph.proofs.CostLaws.{has-costs}
use Rattle.chain_graph.proofs.CycleLaws.{cycle-of-calls, cycle-to-calls}
use Rattle.chain_graph.proofs.NodeLaws.{graph-long, range-of}
use Rattle.chain_graph.proofs.analysis.analyze.Goals as goal

is_sort_result-as : (g h : List (List ℕ)) (o p : SortResult) → g ≡ h → o ≡ p → IsSortResult g o → IsSortResult h p
is_sort_result-as g h o p e f a = subst (λ x. IsSortResult x p) e (subst (IsSortResult g) f a)

pub topological_sort-requires : goal.topological_sort-requires
topological_sort-requires c =
    subst TargetsInRange (sym (ap rows_of c.deref.ensures.value ∙ c.in_ok-all_targets.ensures))
    (range-of (graph_of c.args.nodes.now) (length c.args.nodes.now) c.requires.range (sym (graph-long c.args.nodes.now)))

pub returns-in-Cycle : goal.returns-in-Cycle
returns-in-Cycle c =
    grind (arith, cycle-to-calls, is_sort_result-as, c.deref.ensures.value, c.in_ok-all_targets.ensures, c.in-Cycle.is, c.in_ok-sorted.ensures)

pub returns-in_ok-depths-in-Order : goal.returns-in_ok-depths-in-Order
returns-in_ok-depths-in-Order c =
    let long = graph-long c.args.nodes.now in
    let found = is_sort_result-as _ _ _ (Order c.in-Order.order) (ap rows_of c.deref.ensures.value ∙ c.in_ok-all_targets.ensures) c.in-Order.is
    c.in_ok-sorted.ensures in
    record {
      acyclic = λ k. found.1 (cycle-of-calls (graph_of c.args.nodes.now) k);
      order = found.0;
      costs_long = c.in_ok-costs-in-Order.ensures.long ∙ sym long;
      depths_long = c.in_ok-depths-in-Order.ensures.long ∙ sym long;
      costs = λ cost is k h. c.in_ok-costs-in-Order.ensures.costs cost is k (omega arith);
      has_costs = has-costs (graph_of c.args.nodes.now) c.in-Order.order.items found.0;
      depths = λ k h. c.in_ok-depths-in-Order.ensures.depths k (omega arith);
    }
