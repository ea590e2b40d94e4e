use Rattle.chain_graph.proofs.Names.{drop, get_or, saturated, statements_of, ◌+◌, ◌-◌, ◌≡◌, ◌≤◌}
use Rattle.std.proofs.Common.{◌^◌}
use Rattle.chain_graph.specs.Graph.{chain_cost}
use Rattle.chain_graph.proofs.costs.chain_cost.Given as goal

abbrev pub invariant-loop-calls : goal.invariant-loop-calls
invariant-loop-calls l = record {
  small : l.sum ≤ 2 ^ 64 - 1;
  rest : saturated (l.sum + chain_cost (λ c. get_or l.costs c 0) (statements_of (drop l.calls-index l.statements)))
      ≡ saturated (chain_cost (λ c. get_or l.costs c 0) (statements_of l.statements));
}
