use Rattle.std.proofs.Common.{arith, drop, get_or, ◌+◌}
use Rattle.std.proofs.lemmas.List.{drop_all}
use Rattle.rule_sets.proofs.Sorting.{any_case, keeps_trans, sorts_all, sorts_more, sorts_next}
use Rattle.rule_sets.proofs.parts.sorted.Goals as goal

pub returns-in_err-part-clause-keeps : goal.returns-in_err-part-clause-keeps
returns-in_err-part-clause-keeps c =
    keeps_trans c.args.diagrams.now c.loop-case.diagrams c.and.new.self c.loop-case.invariant.keeps c.and.ensures.keeps

pub without-requires-clause-right : goal.without-requires-clause-right
without-requires-clause-right c =
    let x = get_or c.args.cases.now c.loop-case.case-index any_case in
    let s = sorts_next c.args.diagrams.now c.loop-case.diagrams c.args.set c.loop-case.rest c.loop-case.parts.items c.args.cases.now c.loop-case.case-index
    c.loop-case-test.true c.loop-case.invariant in
    c.and.ensures.keeps.sets x.set (c.loop-case.invariant.keeps.sets x.set s.left_are.0)

pub returns-in_err-rest-clause-keeps : goal.returns-in_err-rest-clause-keeps
returns-in_err-rest-clause-keeps c =
    keeps_trans c.args.diagrams.now c.and.new.self c.without.new.self
    (keeps_trans c.args.diagrams.now c.loop-case.diagrams c.and.new.self c.loop-case.invariant.keeps c.and.ensures.keeps) c.without.ensures.keeps

pub returns-in_err-push-clause-keeps : goal.returns-in_err-push-clause-keeps
returns-in_err-push-clause-keeps c =
    keeps_trans c.args.diagrams.now c.and.new.self c.without.new.self
    (keeps_trans c.args.diagrams.now c.loop-case.diagrams c.and.new.self c.loop-case.invariant.keeps c.and.ensures.keeps) c.without.ensures.keeps

pub loop-case-preserved : goal.loop-case-preserved
loop-case-preserved c =
    let i = c.loop-case.case-index in
    let all = c.args.cases.now in
    let s = sorts_next c.args.diagrams.now c.loop-case.diagrams c.args.set c.loop-case.rest c.loop-case.parts.items all i c.loop-case-test.true
    c.loop-case.invariant in
    sorts_more c.args.diagrams.now c.loop-case.diagrams c.and.new.self c.without.new.self c.args.set c.loop-case.rest c.in_ok-part.part c.in_ok-rest.rest
    c.loop-case.parts.items (drop (i + 1) all) all c.push.new.self.items (get_or all i any_case) s c.and.ensures.keeps c.without.ensures.keeps
    c.in_ok-part.ensures.value c.in_ok-rest.ensures.value c.in_ok-push.ensures.items

pub returns-clause-value : goal.returns-clause-value
returns-clause-value c =
    sorts_all c.args.diagrams.now c.loop-case.diagrams c.args.set c.loop-case.rest c.loop-case.parts.items (drop c.loop-case.case-index c.args.cases.now)
    c.args.cases.now (drop_all c.loop-case.case-index c.args.cases.now (omega arith)) c.loop-case.invariant
