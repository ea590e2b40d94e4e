use Rattle.std.proofs.Common.{arith, drop, get_or, ◌+◌}
use Rattle.std.proofs.lemmas.List.{drop_all}
use Rattle.rule_sets.proofs.Sorting.{keeps_trans}
use Rattle.rule_sets.proofs.LastStatement.{any_end, meets_all, meets_more, meets_next, meets_none, meets_past}
use Rattle.rule_sets.proofs.meeting.met.Goals.{then-end+in_ok-met, else-end}
use Rattle.rule_sets.proofs.meeting.met.Goals as goal

pub loop-end-init : goal.loop-end-init
loop-end-init c = meets_none c.args.diagrams.now _ c.args.ends.now c.ends.ensures.none c.requires.ends

pub or-requires-clause-right : goal.or-requires-clause-right
or-requires-clause-right c =
    let x = get_or c.args.ends.now c.loop-end.end-index any_end in
    let s = meets_next c.args.diagrams.now c.loop-end.diagrams c.loop-end.met c.args.ends.now c.loop-end.end-index c.loop-end-test.true
    c.loop-end.invariant in
    s.keeps.sets x.set s.left_are.0

pub returns-in_err-met-clause-keeps : goal.returns-in_err-met-clause-keeps
returns-in_err-met-clause-keeps c = keeps_trans c.args.diagrams.now c.loop-end.diagrams c.or.new.self c.loop-end.invariant.keeps c.or.ensures.keeps

pub loop-end-preserved : goal.loop-end-preserved
loop-end-preserved c =
    let i = c.loop-end.end-index in
    let all = c.args.ends.now in
    let x = get_or all i any_end in
    let s = meets_next c.args.diagrams.now c.loop-end.diagrams c.loop-end.met all i c.loop-end-test.true c.loop-end.invariant in
    elim c.if-end.branch [
      | then-end+in_ok-met w ↦ rw (w.diagrams-is, w.met-is)
          (meets_more c.args.diagrams.now c.loop-end.diagrams w.or.new.self c.loop-end.met w.in_ok-met.met x (drop (i + 1) all) all s w.if-end.true
          w.or.ensures.keeps w.in_ok-met.ensures.value)
      | else-end w ↦ rw (w.diagrams-is, w.met-is)
          (meets_past c.args.diagrams.now c.loop-end.diagrams c.loop-end.met x (drop (i + 1) all) all s w.if-end.false)
    ]

pub returns-clause-value : goal.returns-clause-value
returns-clause-value c =
    meets_all c.args.diagrams.now c.loop-end.diagrams c.loop-end.met (drop c.loop-end.end-index c.args.ends.now) c.args.ends.now
    (drop_all c.loop-end.end-index c.args.ends.now (omega arith)) c.loop-end.invariant
