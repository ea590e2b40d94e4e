use Rattle.std.proofs.Common.{arith, ap, sym, ◌∙◌, ℕ, Bool}
use Rattle.fact_sets.specs.Facts.{number_in}
use Rattle.fact_sets.specs.Tests.{test_passes}
use Rattle.fact_sets.specs.steps.Readings.{meant}
use Rattle.fact_sets.proofs.SetLaws.{keeps_trans}
use Rattle.fact_sets.proofs.FieldNumbers.{all_numbers, none_more, one_more}
use Rattle.fact_sets.proofs.ranges.listed.Goals as goal
use Rattle.fact_sets.proofs.ranges.listed.Goals.{then-passes+in_ok-one+in_ok-set, else-passes}

pub returns-in_err-one-clause-keeps : goal.returns-in_err-one-clause-keeps
returns-in_err-one-clause-keeps c =
    keeps_trans c.args.diagrams.now c.loop-number.diagrams c.equal.new.self c.loop-number.invariant.keeps c.equal.ensures.keeps

pub returns-in_err-set-clause-keeps : goal.returns-in_err-set-clause-keeps
returns-in_err-set-clause-keeps c =
    keeps_trans c.args.diagrams.now c.equal.new.self c.or.new.self
    (keeps_trans c.args.diagrams.now c.loop-number.diagrams c.equal.new.self c.loop-number.invariant.keeps c.equal.ensures.keeps) c.or.ensures.keeps

pub loop-number-preserved : goal.loop-number-preserved
loop-number-preserved c =
    let invariant = c.loop-number.invariant in
    let t : ℕ → Bool = λ n. test_passes c.args.test (meant c.args.numbers n) in
    let is = ap (test_passes c.args.test) (sym c.of.ensures) ∙ sym c.passes.ensures in
    elim c.if-passes.branch [
      | then-passes+in_ok-one+in_ok-set w ↦ rw (w.diagrams-is, w.set-is) (record {
        keeps = keeps_trans c.args.diagrams.now w.equal.new.self w.or.new.self
            (keeps_trans c.args.diagrams.now c.loop-number.diagrams w.equal.new.self invariant.keeps w.equal.ensures.keeps) w.or.ensures.keeps;
        means = one_more c.loop-number.diagrams w.equal.new.self w.or.new.self c.loop-number.set w.in_ok-one.one w.in_ok-set.set t
            (number_in c.args.field) c.loop-number.number (is ∙ w.if-passes.true) w.equal.ensures.keeps invariant.means w.in_ok-one.ensures.value
            w.in_ok-set.ensures.value;
      })
      | else-passes w ↦ rw (w.diagrams-is, w.set-is) (record {
        keeps = invariant.keeps;
        means = none_more c.loop-number.diagrams c.loop-number.set t (number_in c.args.field) c.loop-number.number (is ∙ w.if-passes.false)
            invariant.means;
      })
    ]

pub returns-clause-value : goal.returns-clause-value
returns-clause-value c =
    all_numbers c.loop-number.diagrams c.loop-number.set (λ n. test_passes c.args.test (meant c.args.numbers n)) c.args.field.first c.args.field.width
    c.loop-number.number (omega arith) c.loop-number.invariant.means
