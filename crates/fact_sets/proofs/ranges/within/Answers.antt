use Rattle.std.proofs.Common.{ℕ, Bool, nat_le}
use Rattle.fact_sets.specs.Facts.{number_in}
use Rattle.fact_sets.proofs.SetLaws.{and_ok, keeps_trans, means_kept, ok_as}
use Rattle.fact_sets.proofs.FieldNumbers.{one_within}
use Rattle.fact_sets.proofs.ranges.within.Goals as goal

pub returns-then-low-high-clause-value : goal.returns-then-low-high-clause-value
returns-then-low-high-clause-value c =
    ok_as c.equal.new.diagrams _ _ c.equal.result (λ f. one_within c.args.low c.args.high (number_in c.args.field f) c.if-low-high.true) c.equal.ensures.value

pub returns-in_err-most-clause-keeps : goal.returns-in_err-most-clause-keeps
returns-in_err-most-clause-keeps c =
    keeps_trans c.args.diagrams.now c.at_least.new.diagrams c.at_most.new.diagrams c.at_least.ensures.keeps c.at_most.ensures.keeps

pub returns-clause-keeps : goal.returns-clause-keeps
returns-clause-keeps c =
    keeps_trans c.args.diagrams.now c.at_most.new.diagrams c.and.new.self
    (keeps_trans c.args.diagrams.now c.at_least.new.diagrams c.at_most.new.diagrams c.at_least.ensures.keeps c.at_most.ensures.keeps)
    c.and.ensures.keeps

pub returns-clause-value : goal.returns-clause-value
returns-clause-value c =
    let low : (ℕ → Bool) → Bool = λ f. nat_le c.args.low (number_in c.args.field f) in
    let high : (ℕ → Bool) → Bool = λ f. nat_le (number_in c.args.field f) c.args.high in
    and_ok c.at_most.new.diagrams c.and.new.self c.in_ok-least.least c.in_ok-most.most low high c.and.result
    (means_kept c.at_least.new.diagrams c.at_most.new.diagrams c.in_ok-least.least low c.at_most.ensures.keeps c.in_ok-least.ensures.value)
    c.in_ok-most.ensures.value c.and.ensures.value
