use Rattle.std.proofs.Common.{◌≤◌, arith}
use Rattle.rule_paths.specs.Paths.{ruleset_cost}
use Rattle.hook_runs.specs.Stages.{total_stage_cost}
use Rattle.hook_runs.specs.steps.Starts.{costed_tree}
use Rattle.hook_runs.proofs.Costs.{costs_its_chains, costs_little}
use Rattle.hook_runs.proofs.Starts.{of_parts}
use Rattle.hook_runs.proofs.runs.HookRuns.new.Goals as goal

pub invariant_of-runs : goal.invariant_of-runs
invariant_of-runs c =
    let code = c.in_ok-code.code in
    let stages = c.in_ok-stages.stages in
    record {
      starts = of_parts c.args.checked code c.in_ok-code.ensures.starts c.in_ok-code.ensures.runs stages
          c.in_ok-stages.ensures;
      few = omega (arith, costs_little c.args.checked code stages c.in_ok-stages.ensures, c.in_ok-code.ensures.cost);
    }

pub returns-clause-starts : goal.returns-clause-starts
returns-clause-starts c = of_parts c.args.checked c.in_ok-code.code c.in_ok-code.ensures.starts
    c.in_ok-code.ensures.runs c.in_ok-stages.stages c.in_ok-stages.ensures

pub returns-clause-stage_costs : goal.returns-clause-stage_costs
returns-clause-stage_costs c = λ cost are stage.
    let code = c.in_ok-code.code in
    let stages = c.in_ok-stages.stages in
    costs_its_chains c.args.checked code cost are stages stage (of_parts c.args.checked code
    c.in_ok-code.ensures.starts c.in_ok-code.ensures.runs stages c.in_ok-stages.ensures stage)

pub returns-clause-cost : goal.returns-clause-cost
returns-clause-cost c = λ cost are.
    let code = c.in_ok-code.code in
    let stages = c.in_ok-stages.stages in
    let little = costs_little c.args.checked code stages c.in_ok-stages.ensures in
    let same = c.in_ok-code.ensures.total cost are in
    let fits : total_stage_cost (costed_tree c.args.checked code stages) ≤ ruleset_cost cost c.args.checked.rules =
    omega (arith, little, same) in
    fits
