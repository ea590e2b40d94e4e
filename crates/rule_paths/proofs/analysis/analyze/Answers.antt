use Rattle.std.proofs.Common.{◌≡◌, ◌+◌, take, subst, arith, refl}
use Rattle.std.proofs.lemmas.List.{take_all, take_more}
use Rattle.std.proofs.lemmas.Option.{MatchOption-at_some}
use Rattle.chain_graph.specs.Graph.{HasCycle}
use Rattle.chain_graph.specs.Measures.{saturated}
use Rattle.rule_paths.specs.Paths.{CallsOf}
use Rattle.rule_paths.specs.steps.Tables.{AreTableFindings, AreFindingsSoFar}
use Rattle.rule_paths.proofs.PathFindings.{none-so-far, more-so-far, all-found}
use Rattle.rule_paths.proofs.analysis.analyze.Goals as goal

pub loop-table-init : goal.loop-table-init
loop-table-init c = rw (c.in_ok-costs.ensures.items, c.in_ok-depths.ensures.items) none-so-far

pub returns-in_default : goal.returns-in_default
returns-in_default c = grind arith

pub loop-table-preserved : goal.loop-table-preserved
loop-table-preserved c =
    let t = c.table-item.result in
    let cost : c.saturating_add-cost.result ≡ saturated (c.loop-table.cost + c.in-Some.found.base_cost) = omega arith in
    rw (cost, c.in_ok-push.ensures.items, c.in_ok-push-2.ensures.items)
    (rw (take_more c.args.names.now c.loop-table.table-index t (omega arith), ← c.table-item.is)
    (more-so-far (take c.loop-table.table-index c.args.names.now) t _ _ _ _ _ _ c.loop-table.invariant
    (MatchOption-at_some (HasCycle (CallsOf t)) (λ found. AreTableFindings t found) c.in-Some.found c.in-Some.is c.in_ok-found.ensures)))

pub returns : goal.returns
returns c = all-found c.args.names.now c.loop-table.cost _
    (subst (λ ts. AreFindingsSoFar ts c.loop-table.is_too_deep c.loop-table.misplaces_nat c.loop-table.cost
    c.loop-table.costs.items c.loop-table.depths.items)
    (take_all c.loop-table.table-index c.args.names.now (omega arith)) c.loop-table.invariant)
    refl
