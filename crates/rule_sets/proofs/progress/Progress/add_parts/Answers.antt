use Rattle.std.proofs.Common.{◌+◌, drop, get_or, refl, subst, sym}
use Rattle.rule_sets.specs.declared.progress.Progress.{Progress}
use Rattle.rule_sets.specs.steps.Progress.{AddsCase}
use Rattle.rule_sets.proofs.Advancing.{Sorted, sorted_given, sorted_moved, sorted_next, sorted_none}
use Rattle.rule_sets.proofs.EqualEnds.{same_end, same_written}
use Rattle.rule_sets.proofs.Sorting.{any_case, keeps_trans}
use Rattle.rule_sets.proofs.progress.Progress.add_parts.Goals.{in-Gives+in_ok-add_case-2, in_default+in_ok-add_case-3}
use Rattle.rule_sets.proofs.progress.Progress.add_parts.Goals as goal

pub add_case-requires-clause-same : goal.add_case-requires-clause-same
add_case-requires-clause-same c = same_end

pub loop-part-init : goal.loop-part-init
loop-part-init c =
    let q : Progress = record { ends = c.add_case.new.cases; passing = c.args.self.now.passing } in
    subst (Sorted c.args.diagrams.now c.add_case.new.diagrams c.args.reader c.args.last c.args.parts.now c.args.self.now q)
    (sym c.deref-part-items.ensures.value) (sorted_none c.args.diagrams.now c.add_case.new.diagrams c.args.reader c.args.last c.args.parts.now
    c.args.self.now q c.add_case.ensures.keeps c.requires.sets c.requires.parts refl c.in_ok-add_case.ensures.adds)

pub add_case-requires-in-Gives-clause-same : goal.add_case-requires-in-Gives-clause-same
add_case-requires-in-Gives-clause-same c = same_end

pub add_case-requires-in-Gives-clause-set : goal.add_case-requires-in-Gives-clause-set
add_case-requires-in-Gives-clause-set c =
    let x = get_or c.deref-part-items.result.now c.loop-part.part-index any_case in
    let s = sorted_next _ _ _ _ _ _ _ c.deref-part-items.result.now c.loop-part.part-index any_case c.loop-part-test.true c.loop-part.invariant in
    s.walks.keeps.sets x.set s.left_are.0

pub returns-in_err-add_case-2-clause-keeps : goal.returns-in_err-add_case-2-clause-keeps
returns-in_err-add_case-2-clause-keeps c =
    keeps_trans c.args.diagrams.now c.loop-part.diagrams c.add_case-in-Gives.new.diagrams c.loop-part.invariant.walks.keeps
    c.add_case-in-Gives.ensures.keeps

pub add_case-requires-in_default-clause-same : goal.add_case-requires-in_default-clause-same
add_case-requires-in_default-clause-same c = same_written

pub add_case-requires-in_default-clause-set : goal.add_case-requires-in_default-clause-set
add_case-requires-in_default-clause-set c =
    let x = get_or c.deref-part-items.result.now c.loop-part.part-index any_case in
    let s = sorted_next _ _ _ _ _ _ _ c.deref-part-items.result.now c.loop-part.part-index any_case c.loop-part-test.true c.loop-part.invariant in
    s.walks.keeps.sets x.set s.left_are.0

pub returns-in_err-add_case-3-clause-keeps : goal.returns-in_err-add_case-3-clause-keeps
returns-in_err-add_case-3-clause-keeps c =
    keeps_trans c.args.diagrams.now c.loop-part.diagrams c.add_case-in_default.new.diagrams c.loop-part.invariant.walks.keeps
    c.add_case-in_default.ensures.keeps

pub loop-part-preserved : goal.loop-part-preserved
loop-part-preserved c =
    let i = c.loop-part.part-index in
    let parts = c.deref-part-items.result.now in
    let x = get_or parts i any_case in
    let s = sorted_next _ _ _ _ _ _ _ parts i any_case c.loop-part-test.true c.loop-part.invariant in
    elim c.match-part.branch [
      | in-Gives+in_ok-add_case-2 w ↦ rw (w.self-is, w.diagrams-is)
          (sorted_given _ _ w.add_case-in-Gives.new.diagrams _ _ _ _ _ (record { ends = w.add_case-in-Gives.new.cases; passing = c.loop-part.self.passing })
          x (drop (i + 1) parts) w.in-Gives.verdict s w.in-Gives.is w.add_case-in-Gives.ensures.keeps refl w.in_ok-add_case-2.ensures.adds)
      | in_default+in_ok-add_case-3 w ↦
          let q : Progress = record { ends = c.loop-part.self.ends; passing = w.add_case-in_default.new.cases } in
          rw (w.self-is, w.diagrams-is) (sorted_moved _ _ w.add_case-in_default.new.diagrams _ _ _ _ _ q x (drop (i + 1) parts) s
          w.in_default.not-Gives w.add_case-in_default.ensures.keeps refl
          (subst (λ y. AddsCase c.loop-part.diagrams w.add_case-in_default.new.diagrams x.set y c.loop-part.self.passing.items q.passing.items)
          w.written_after-written.ensures w.in_ok-add_case-3.ensures.adds))
    ]
