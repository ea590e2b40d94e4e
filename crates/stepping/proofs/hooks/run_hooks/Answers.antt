use Rattle.stepping.proofs.Names.{AfterRouting, InputOrForward, List, Mapping, Option, PathState, Setup, StepResult, err_from_is_err_and, subst, sym, ◌≡◌}
use Rattle.rule_meaning.specs.declared.facts.Interface.{Interface}
use Rattle.stepping.proofs.StepsTaken.{at_cost, of_step, spent_both, stopped, unspent, went_on}
use Rattle.stepping.proofs.hooks.run_hooks.Goals as goal

at_output : (setup : Setup) (held : List Mapping) (output : Option Interface) (s : PathState) (r : StepResult)
    → s.facts.output ≡ output → InputOrForward setup held output s r → AfterRouting setup held s r
at_output setup held output s r is step = subst (λ (o : Option Interface). InputOrForward setup held o s r) (sym is) step

pub returns-in_err-prerouting : goal.returns-in_err-prerouting
returns-in_err-prerouting c =
    let q = err_from_is_err_and c.from_residual.result c.from_residual.ensures.1 in
    rw (q.1, q.2) (record { took = stopped _ c.in_err-prerouting.ensures.took })

pub returns-in_err-route : goal.returns-in_err-route
returns-in_err-route c =
    let q = err_from_is_err_and c.from_residual-in_err-route.result c.from_residual-in_err-route.ensures.1 in
    let route = c.in_err-route.ensures in
    rw (q.1, q.2) (record {
      took = went_on c.in_ok-prerouting.ensures.took
          (at_cost (unspent _ _)
          (stopped {a = 0} 0 (of_step (λ held. route.step c.prerouting.new.events) route.info route.entry (unspent _ 0))));
    })

pub returns-in-None : goal.returns-in-None
returns-in-None c =
    let route = c.in_ok-route.ensures in
    let run = c.run.ensures.took _ in
    let spent = spent_both _ _ run.spent (unspent _ _) in
    record {
      took = went_on c.in_ok-prerouting.ensures.took (at_cost spent (went_on
          {a = 0} (of_step (λ held. route.step c.prerouting.new.events) route.info route.entry (unspent _ 0))
          (record {
            step = λ held same. at_output _ held _ _ _ c.in-None.is (run.step held same);
            fits = run.fits;
            same = run.same;
            entry = run.entry;
            spent = spent;
          })));
    }

pub returns-in-Some : goal.returns-in-Some
returns-in-Some c =
    let route = c.in_ok-route.ensures in
    let t = c.forward_and_postrouting.ensures.took in
    record {
      took = went_on c.in_ok-prerouting.ensures.took (at_cost t.spent (went_on
          {a = 0} (of_step (λ held. route.step c.prerouting.new.events) route.info route.entry (unspent _ 0))
          (record {
            step = λ held same. at_output _ held _ _ _ c.in-Some.is (t.step held same);
            fits = t.fits;
            same = t.same;
            entry = t.entry;
            spent = t.spent;
          })));
    }
