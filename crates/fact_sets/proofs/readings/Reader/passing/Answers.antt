use Rattle.std.proofs.Common.{ℕ, Bool}
use Rattle.fact_sets.specs.Facts.{number_in}
use Rattle.fact_sets.specs.Tests.{test_passes}
use Rattle.fact_sets.specs.steps.Readings.{is_present, meant}
use Rattle.fact_sets.proofs.SetLaws.{and_ok, keeps_trans, keeps_twice, means_kept, ok_as}
use Rattle.fact_sets.proofs.SelectorLaws.{is_field, passing_is}
use Rattle.fact_sets.proofs.readings.Reader.passing.Goals as goal

pub passing-requires : goal.passing-requires
passing-requires c = rw c.field.ensures (is_field c.args.self.written c.args.selector)

pub returns-in_err-among-clause-keeps : goal.returns-in_err-among-clause-keeps
returns-in_err-among-clause-keeps c =
    keeps_trans c.args.diagrams.now c.present.new.diagrams c.passing.new.diagrams c.present.ensures.keeps c.passing.ensures.keeps

pub returns-clause-keeps : goal.returns-clause-keeps
returns-clause-keeps c =
    keeps_twice c.args.diagrams.now c.present.new.diagrams c.passing.new.diagrams c.and.new.self c.present.ensures.keeps c.passing.ensures.keeps
    c.and.ensures.keeps

pub returns-clause-value : goal.returns-clause-value
returns-clause-value c =
    let t : ℕ → Bool = test_passes c.args.test in
    let m : ℕ → ℕ = meant c.numbers.result in
    ok_as c.and.new.self _ _ c.and.result (λ f. passing_is c.args.self c.args.selector t c.field.result m f c.field.ensures c.numbers.ensures)
    (and_ok c.passing.new.diagrams c.and.new.self c.in_ok-there.there c.in_ok-among.among (is_present c.args.selector) (λ f. t (m (number_in c.field.result f)))
    c.and.result (means_kept c.present.new.diagrams c.passing.new.diagrams c.in_ok-there.there (is_present c.args.selector) c.passing.ensures.keeps
    c.in_ok-there.ensures.value) c.in_ok-among.ensures.value c.and.ensures.value)
