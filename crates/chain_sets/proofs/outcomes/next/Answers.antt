use Rattle.std.proofs.Common.{ap, append-nil, get_or, sym, None, Some, ◌∙◌}
use Rattle.std.specs.Option.{option_map}
use Rattle.chain_sets.specs.steps.Outcomes.{case_if, written_next}
use Rattle.chain_sets.proofs.Exits.{any_exit, picked_more}
use Rattle.chain_sets.proofs.outcomes.next.Goals.{in-Next+in_ok-push, in_default}
use Rattle.chain_sets.proofs.outcomes.next.Goals as goal

pub loop-exit-preserved : goal.loop-exit-preserved
loop-exit-preserved c =
    let i = c.loop-exit.exit-index in
    let all = c.args.exits.now in
    let x = get_or all i any_exit in
    let now = c.loop-exit.states.items in
    elim c.match-exit.branch [
      | in-Next+in_ok-push w ↦ ap (λ v. v.items) w.states-is ∙ picked_more (case_if written_next) all i any_exit now w.push.new.self.items
          (Some (record { set = x.set; outcome = w.in-Next.written })) c.loop-exit-test.true c.loop-exit.invariant
          (ap (λ o. option_map (λ e. record { set = x.set; outcome = e }) (written_next o)) w.in-Next.is) w.in_ok-push.ensures.items
      | in_default w ↦ ap (λ v. v.items) w.states-is ∙ picked_more (case_if written_next) all i any_exit now now None c.loop-exit-test.true c.loop-exit.invariant
          (ap (λ o. option_map (λ e. record { set = x.set; outcome = e }) (written_next o)) w.in_default.is) (sym (append-nil now))
    ]
