use Rattle.std.proofs.Common.{ap, append-nil, get_or, sym, None, Some, ◌∙◌}
use Rattle.chain_sets.specs.steps.Outcomes.{case_if}
use Rattle.chain_sets.proofs.Exits.{picked_more}
use Rattle.stage_sets.specs.steps.Outcomes.{stays}
use Rattle.stage_sets.proofs.Parts.{any_outcome, it_stays, staying_by}
use Rattle.stage_sets.proofs.ends.staying.Goals.{in-Accepted, in_default+in_ok-push-in_default}
use Rattle.stage_sets.proofs.ends.staying.Goals as goal

pub loop-case-preserved : goal.loop-case-preserved
loop-case-preserved c =
    let i = c.loop-case.case-index in
    let all = c.args.outcomes.now in
    let x = get_or all i any_outcome in
    let now = c.loop-case.parts.items in
    elim c.match-case.branch [
      | in-Accepted w ↦ ap (λ v. v.items) w.parts-is ∙ picked_more (case_if stays) all i any_outcome now now None c.loop-case-test.true c.loop-case.invariant
          (ap (staying_by x) w.in-Accepted.is) (sym (append-nil now))
      | in_default+in_ok-push-in_default w ↦ ap (λ v. v.items) w.parts-is ∙ picked_more (case_if stays) all i any_outcome now w.push.new.self.items
          (Some x) c.loop-case-test.true c.loop-case.invariant (it_stays x w.in_default.not-Accepted) w.in_ok-push-in_default.ensures.items
    ]
