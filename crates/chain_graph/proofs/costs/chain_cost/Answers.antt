use Rattle.chain_graph.proofs.Names.{ap, arith, call_of, get_or, map, statements_of, ℕ, ◌∙◌}
use Rattle.std.proofs.lemmas.List.{at_drop_all}
use Rattle.chain_graph.specs.Graph.{chain_cost, greatest}
use Rattle.chain_graph.proofs.CostLaws.{cost-rest}
use Rattle.chain_graph.proofs.costs.chain_cost.Goals as goal

pub loop-calls-preserved : goal.loop-calls-preserved
loop-calls-preserved c =
    let rest = cost-rest (λ (k : ℕ). get_or c.args.costs.now k 0) c.args.statements.now c.loop-calls.calls-index c.calls-item.result
    (omega arith) c.calls-item.is in
    let now = c.greatest.ensures ∙ ap (λ xs. greatest (λ (k : ℕ). get_or c.args.costs.now k 0) (map call_of xs)) c.deref.ensures.value in
    record { small = omega arith; rest = omega arith }

pub returns : goal.returns
returns c =
    let none = at_drop_all (λ xs. chain_cost (λ (k : ℕ). get_or c.args.costs.now k 0) (statements_of xs)) c.args.statements.now
    c.loop-calls.calls-index (omega arith) in
    let known = c.loop-calls.invariant in
    omega arith
