use Rattle.std.proofs.Common.{nat_le, [], ◌∷◌, true}
use Rattle.set_intervals.specs.Pairs.{in_range}
use Rattle.rule_meaning.specs.Matches.{tests}
use Rattle.rule_meaning.specs.Selectors.{joined_value, value}
use Rattle.fact_sets.specs.Cases.{seen}
use Rattle.fact_sets.proofs.SetLaws.{keeps_trans}
use Rattle.action_cases.proofs.CaseLaws.{above_is, below_is, not_ok, single, unequal_is}
use Rattle.action_cases.proofs.cases.compared.Goals as goal

pub returns-in_ok-equal-in-Unequal-clause-keeps : goal.returns-in_ok-equal-in-Unequal-clause-keeps
returns-in_ok-equal-in-Unequal-clause-keeps c = keeps_trans c.args.diagrams.now c.ranged-in-Unequal.new.diagrams c.others.new.diagrams
    c.ranged-in-Unequal.ensures.keeps c.others.ensures.keeps

pub returns-in_ok-equal-in-Unequal-clause-value : goal.returns-in_ok-equal-in-Unequal-clause-value
returns-in_ok-equal-in-Unequal-clause-value c =
    let s = c.args.selector in
    let r = c.args.range in
    rw c.in-Unequal.is (not_ok c.ranged-in-Unequal.new.diagrams c.others.new.diagrams c.in_ok-equal-in-Unequal.equal (λ f. tests (joined_value (s ∷ [])
    (seen c.args.reader f)) (λ n. true))
    (λ f. tests (value s (seen c.args.reader f)) (in_range r)) _ c.others.result c.in_ok-equal-in-Unequal.ensures.value
    (λ f. rw (single s (seen c.args.reader f)) (unequal_is (value s (seen c.args.reader f)) r)) c.others.ensures.value)

pub returns-in_ok-above-in-Below-clause-keeps : goal.returns-in_ok-above-in-Below-clause-keeps
returns-in_ok-above-in-Below-clause-keeps c = keeps_trans c.args.diagrams.now c.passing.new.diagrams c.others-in-Below.new.diagrams c.passing.ensures.keeps
    c.others-in-Below.ensures.keeps

pub returns-in_ok-above-in-Below-clause-value : goal.returns-in_ok-above-in-Below-clause-value
returns-in_ok-above-in-Below-clause-value c =
    let s = c.args.selector in
    let r = c.args.range in
    rw c.in-Below.is (not_ok c.passing.new.diagrams c.others-in-Below.new.diagrams c.in_ok-above-in-Below.above (λ f. tests (joined_value (s ∷ [])
    (seen c.args.reader f)) (λ n. true))
    (λ f. tests (value s (seen c.args.reader f)) (nat_le c.low.result)) _ c.others-in-Below.result c.in_ok-above-in-Below.ensures.value
    (λ f. rw (c.low.ensures, single s (seen c.args.reader f)) (below_is (value s (seen c.args.reader f)) r)) c.others-in-Below.ensures.value)

pub returns-in_ok-below-in-Above-clause-keeps : goal.returns-in_ok-below-in-Above-clause-keeps
returns-in_ok-below-in-Above-clause-keeps c = keeps_trans c.args.diagrams.now c.passing-in-Above.new.diagrams c.others-in-Above.new.diagrams
    c.passing-in-Above.ensures.keeps c.others-in-Above.ensures.keeps

pub returns-in_ok-below-in-Above-clause-value : goal.returns-in_ok-below-in-Above-clause-value
returns-in_ok-below-in-Above-clause-value c =
    let s = c.args.selector in
    let r = c.args.range in
    rw c.in-Above.is (not_ok c.passing-in-Above.new.diagrams c.others-in-Above.new.diagrams c.in_ok-below-in-Above.below (λ f. tests (joined_value (s ∷ [])
    (seen c.args.reader f)) (λ n. true))
    (λ f. tests (value s (seen c.args.reader f)) (λ n. nat_le n c.high.result)) _ c.others-in-Above.result c.in_ok-below-in-Above.ensures.value
    (λ f. rw (c.high.ensures, single s (seen c.args.reader f)) (above_is (value s (seen c.args.reader f)) r)) c.others-in-Above.ensures.value)

pub returns-in-Equal-clause-value : goal.returns-in-Equal-clause-value
returns-in-Equal-clause-value c =
    rw c.in-Equal.is c.ranged.ensures.value
