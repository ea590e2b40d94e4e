use Rattle.std.proofs.Common.{arith, drop, get_or, ◌+◌}
use Rattle.std.proofs.lemmas.List.{drop_all}
use Rattle.rule_sets.proofs.Sorting.{keeps_trans}
use Rattle.rule_sets.proofs.Within.{any_end, cuts_all, cuts_more, cuts_next}
use Rattle.rule_sets.proofs.cutting.cut_to.Goals as goal

pub returns-in_err-part-clause-keeps : goal.returns-in_err-part-clause-keeps
returns-in_err-part-clause-keeps c =
    keeps_trans c.args.diagrams.now c.loop-end.diagrams c.and.new.self c.loop-end.invariant.keeps c.and.ensures.keeps

pub returns-in_err-push-clause-keeps : goal.returns-in_err-push-clause-keeps
returns-in_err-push-clause-keeps c =
    keeps_trans c.args.diagrams.now c.loop-end.diagrams c.and.new.self c.loop-end.invariant.keeps c.and.ensures.keeps

pub loop-end-preserved : goal.loop-end-preserved
loop-end-preserved c =
    let i = c.loop-end.end-index in
    let all = c.args.ends.now in
    cuts_more c.args.diagrams.now c.loop-end.diagrams c.and.new.self c.args.set c.in_ok-part.part c.loop-end.parts.items (drop (i + 1) all) all
    c.push.new.self.items (get_or all i any_end) c.requires.set
    (cuts_next c.args.diagrams.now c.loop-end.diagrams c.args.set c.loop-end.parts.items all i c.loop-end-test.true c.loop-end.invariant)
    c.and.ensures.keeps c.in_ok-part.ensures.value c.in_ok-push.ensures.items

pub returns-clause-same : goal.returns-clause-same
returns-clause-same c =
    cuts_all c.args.diagrams.now c.loop-end.diagrams c.args.set c.loop-end.parts.items (drop c.loop-end.end-index c.args.ends.now) c.args.ends.now
    (drop_all c.loop-end.end-index c.args.ends.now (omega arith)) c.loop-end.invariant
