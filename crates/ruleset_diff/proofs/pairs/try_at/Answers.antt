use Rattle.std.proofs.Common.{length, refl, sym}
use Rattle.std.proofs.lemmas.Bool.{ltb-false, ltb-true}
use Rattle.std.proofs.lemmas.Option.{slice_get_past, slice_get_read}
use Rattle.std.proofs.lemmas.Result.{IfOk-weaker}
use Rattle.ruleset_diff.proofs.Compared.{case_set, rest_met, rest_none, tried_more}
use Rattle.ruleset_diff.proofs.pairs.try_at.Goals as goal

pub meet-requires-clause-new : goal.meet-requires-clause-new
meet-requires-clause-new c =
    let new = c.args.new.now in
    let under = ltb-true c.args.index (length new) (sym c.in-Some.ensures.lookup.0) in
    case_set c.args.diagrams.now new c.args.index c.in-Some.case.now c.requires.new
    (slice_get_read new (length new) c.args.index c.in-Some.case.now refl under c.in-Some.ensures.lookup.1)

pub returns-in-Some-clause-rest : goal.returns-in-Some-clause-rest
returns-in-Some-clause-rest c =
    let new = c.args.new.now in
    let under = ltb-true c.args.index (length new) (sym c.in-Some.ensures.lookup.0) in
    let at = slice_get_read new (length new) c.args.index c.in-Some.case.now refl under c.in-Some.ensures.lookup.1 in
    IfOk-weaker c.meet.result _ _ (λ rest met. rest_met c.args.diagrams.now c.meet.new.diagrams c.args.stage c.args.left c.in-Some.case.now new c.args.index at
    c.args.differences.now.items c.meet.new.differences.items rest met) c.meet.ensures.met

pub returns-in-Some-clause-tried : goal.returns-in-Some-clause-tried
returns-in-Some-clause-tried c =
    let new = c.args.new.now in
    let under = ltb-true c.args.index (length new) (sym c.in-Some.ensures.lookup.0) in
    let at = slice_get_read new (length new) c.args.index c.in-Some.case.now refl under c.in-Some.ensures.lookup.1 in
    IfOk-weaker c.meet.result _ _ (λ rest met. λ old before same so_far. tried_more c.args.diagrams.now c.meet.new.diagrams c.meet.ensures.keeps c.args.stage old
    c.args.left c.in-Some.case.now new c.requires.new c.args.index at same before c.args.differences.now.items c.meet.new.differences.items rest so_far met)
    c.meet.ensures.met

pub returns-in-None-clause-rest : goal.returns-in-None-clause-rest
returns-in-None-clause-rest c =
    let new = c.args.new.now in
    rest_none c.args.diagrams.now c.args.left.set new c.args.index c.requires.left
    (slice_get_past new c.args.index (ltb-false c.args.index (length new) (sym c.in-None.ensures.lookup.0)))
