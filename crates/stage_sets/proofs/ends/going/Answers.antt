use Rattle.std.proofs.Common.{ap, append-nil, get_or, sym, None, Some, ◌∙◌}
use Rattle.chain_sets.specs.steps.Outcomes.{case_if}
use Rattle.chain_sets.proofs.Exits.{picked_more}
use Rattle.stage_sets.specs.steps.Outcomes.{goes_on}
use Rattle.stage_sets.proofs.Parts.{any_outcome, going_by, none_goes}
use Rattle.stage_sets.proofs.ends.going.Goals.{in-Accepted+in_ok-push, in_default}
use Rattle.stage_sets.proofs.ends.going.Goals as goal

pub loop-case-preserved : goal.loop-case-preserved
loop-case-preserved c =
    let i = c.loop-case.case-index in
    let all = c.args.outcomes.now in
    let x = get_or all i any_outcome in
    let now = c.loop-case.parts.items in
    elim c.match-case.branch [
      | in-Accepted+in_ok-push w ↦ ap (λ v. v.items) w.parts-is ∙ picked_more (case_if goes_on) all i any_outcome now w.push.new.self.items
          (Some (record { set = x.set; outcome = x.outcome.written })) c.loop-case-test.true c.loop-case.invariant
          (ap (going_by x) w.in-Accepted.is) w.in_ok-push.ensures.items
      | in_default w ↦ ap (λ v. v.items) w.parts-is ∙ picked_more (case_if goes_on) all i any_outcome now now None c.loop-case-test.true c.loop-case.invariant
          (none_goes x w.in_default.not-Accepted) (sym (append-nil now))
    ]
