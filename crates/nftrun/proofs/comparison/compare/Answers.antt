-- The rulesets are judged one after another, and the fault is that of the first that is refused.
use Rattle.std.proofs.Common.{ap}
use Rattle.std.proofs.lemmas.Result.{err_from_is_err_and}
use Rattle.box_file.proofs.BoxLaws.{one_plant}
use Rattle.program.specs.Diffing.{text_of}
use Rattle.nftrun.proofs.Comparing.{accepted_by, all_accepted, filter_refused, new_refused, told, untold}
use Rattle.nftrun.proofs.comparison.compare.Goals as goal

pub returns-in_err-new-clause-refused : goal.returns-in_err-new-clause-refused
returns-in_err-new-clause-refused c =
    let q = err_from_is_err_and c.from_residual-in_err-new.result c.from_residual-in_err-new.ensures.1 in
    let judged = c.in_err-new.ensures.refused in
    rw (q.1, q.2, judged.2)
    (new_refused c.args.inputs (accepted_by _ _ c.in_ok-old.old c.in_ok-old.ensures.fine) judged.0 judged.1)

pub tell-requires-clause-same_box : goal.tell-requires-clause-same_box
tell-requires-clause-same_box c = one_plant _ _ _ c.in_ok-new.ensures.fine.read c.in_ok-old.ensures.fine.read

pub returns-in_default-clause-told : goal.returns-in_default-clause-told
returns-in_default-clause-told c = told _ c.tell.result
    (all_accepted c.args.inputs _ c.in_default.is (accepted_by _ _ c.in_ok-old.old c.in_ok-old.ensures.fine)
    (accepted_by _ _ c.in_ok-new.new c.in_ok-new.ensures.fine) tt)

pub returns-in_default-clause-refused : goal.returns-in_default-clause-refused
returns-in_default-clause-refused c = untold c.args.inputs c.tell.result
    (all_accepted c.args.inputs _ c.in_default.is (accepted_by _ _ c.in_ok-old.old c.in_ok-old.ensures.fine)
    (accepted_by _ _ c.in_ok-new.new c.in_ok-new.ensures.fine) tt) c.tell.ensures

pub returns-in_err-filter-clause-refused : goal.returns-in_err-filter-clause-refused
returns-in_err-filter-clause-refused c =
    let q = err_from_is_err_and c.from_residual-in_err-filter.result c.from_residual-in_err-filter.ensures.1 in
    let judged = c.in_err-filter.ensures.refused in
    rw (q.1, q.2, judged.2)
    (filter_refused c.args.inputs (accepted_by _ _ c.in_ok-old.old c.in_ok-old.ensures.fine)
    (accepted_by _ _ c.in_ok-new.new c.in_ok-new.ensures.fine) _ (ap text_of c.in-Some.is) judged.0 judged.1)

pub tell-requires-2-clause-same_box : goal.tell-requires-2-clause-same_box
tell-requires-2-clause-same_box c = one_plant _ _ _ c.in_ok-new.ensures.fine.read c.in_ok-old.ensures.fine.read

pub tell-requires-2-clause-assumed_box : goal.tell-requires-2-clause-assumed_box
tell-requires-2-clause-assumed_box c = one_plant _ _ _ c.in_ok-filter.ensures.fine.read c.in_ok-old.ensures.fine.read

pub returns-clause-told : goal.returns-clause-told
returns-clause-told c = told _ c.tell-2.result
    (all_accepted c.args.inputs _ c.in-Some.is (accepted_by _ _ c.in_ok-old.old c.in_ok-old.ensures.fine)
    (accepted_by _ _ c.in_ok-new.new c.in_ok-new.ensures.fine)
    (accepted_by _ _ c.in_ok-filter.filter c.in_ok-filter.ensures.fine))

pub returns-clause-refused : goal.returns-clause-refused
returns-clause-refused c = untold c.args.inputs c.tell-2.result
    (all_accepted c.args.inputs _ c.in-Some.is (accepted_by _ _ c.in_ok-old.old c.in_ok-old.ensures.fine)
    (accepted_by _ _ c.in_ok-new.new c.in_ok-new.ensures.fine)
    (accepted_by _ _ c.in_ok-filter.filter c.in_ok-filter.ensures.fine)) c.tell-2.ensures
