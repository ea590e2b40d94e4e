use Rattle.std.proofs.Common.{List, arith, sym, ap, ◌∙◌, subst}
use Rattle.rule_meaning.specs.Hooks.{Chains}
use Rattle.filter_vm.specs.declared.code.Start.{Start}
use Rattle.rule_meaning.specs.Hooks.{chains_in_stage}
use Rattle.hook_runs.specs.steps.Starts.{in_order_result, staged_starts}
use Rattle.hook_runs.proofs.Starts.{chains_run}
use Rattle.hook_runs.proofs.runs.HookRuns.run.Goals as goal

pub returns-clause-end : goal.returns-clause-end
returns-clause-end c =
    let r = c.self.inside in
    let stage = c.args.stage in
    let f = c.args.facts.now in
    let es = c.args.events.now.events in
    let end = c.run_in_order.ensures.end ∙ ap (λ (ss : List Start). in_order_result r.code ss f es) c.starts.ensures in
    rw (← c.self.view_is)
    (subst (Chains r.checked.network r.checked.rules (chains_in_stage stage) f es) (sym end)
    (chains_run r.checked r.code (chains_in_stage stage) (staged_starts r.stages stage)
    (c.self.invariant.starts stage) f es))

pub returns-clause-counted : goal.returns-clause-counted
returns-clause-counted c = grind arith

pub returns-clause-few : goal.returns-clause-few
returns-clause-few c = grind arith
