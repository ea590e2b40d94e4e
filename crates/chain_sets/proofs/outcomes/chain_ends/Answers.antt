use Rattle.std.proofs.Common.{ap, append-nil, get_or, sym, None, Some, ◌∙◌}
use Rattle.std.specs.Option.{option_map}
use Rattle.chain_sets.specs.steps.Outcomes.{case_if, end_in}
use Rattle.chain_sets.proofs.Exits.{any_exit, picked_more}
use Rattle.chain_sets.proofs.outcomes.chain_ends.Goals.{in-Ends+in_ok-push, in_default}
use Rattle.chain_sets.proofs.outcomes.chain_ends.Goals as goal

pub loop-exit-preserved : goal.loop-exit-preserved
loop-exit-preserved c =
    let i = c.loop-exit.exit-index in
    let all = c.args.exits.now in
    let x = get_or all i any_exit in
    let now = c.loop-exit.ends.items in
    elim c.match-exit.branch [
      | in-Ends+in_ok-push w ↦ ap (λ v. v.items) w.ends-is ∙ picked_more (case_if end_in) all i any_exit now w.push.new.self.items
          (Some (record { set = x.set; outcome = w.in-Ends.end })) c.loop-exit-test.true c.loop-exit.invariant
          (ap (λ o. option_map (λ e. record { set = x.set; outcome = e }) (end_in o)) w.in-Ends.is) w.in_ok-push.ensures.items
      | in_default w ↦ ap (λ v. v.items) w.ends-is ∙ picked_more (case_if end_in) all i any_exit now now None c.loop-exit-test.true c.loop-exit.invariant
          (ap (λ o. option_map (λ e. record { set = x.set; outcome = e }) (end_in o)) w.in_default.is) (sym (append-nil now))
    ]
