use Rattle.std.proofs.Common.{◌&&◌, nat_le, ℕ, Bool}
use Rattle.set_intervals.specs.Pairs.{in_range}
use Rattle.rule_meaning.specs.Matches.{tests}
use Rattle.rule_meaning.specs.Selectors.{joined_value}
use Rattle.fact_sets.specs.Cases.{seen}
use Rattle.fact_sets.proofs.SetLaws.{and_ok, keeps_trans, means_kept, ok_as}
use Rattle.action_cases.proofs.CaseLaws.{both_pass, single_ok}
use Rattle.action_cases.proofs.cases.within.Goals as goal

pub returns-in_err-most-clause-keeps : goal.returns-in_err-most-clause-keeps
returns-in_err-most-clause-keeps c = keeps_trans c.args.diagrams.now c.bounded.new.diagrams c.bounded-2.new.diagrams
    (c.bounded.ensures.keeps) c.bounded-2.ensures.keeps

pub returns-clause-keeps : goal.returns-clause-keeps
returns-clause-keeps c = keeps_trans c.args.diagrams.now c.bounded-2.new.diagrams c.and.new.self
    (keeps_trans c.args.diagrams.now c.bounded.new.diagrams c.bounded-2.new.diagrams (c.bounded.ensures.keeps) c.bounded-2.ensures.keeps) c.and.ensures.keeps

pub returns-clause-value : goal.returns-clause-value
returns-clause-value c =
    let v = λ (f : ℕ → Bool). joined_value c.args.selectors.now (seen c.args.reader f) in
    let least : (ℕ → Bool) → Bool = λ f. tests (v f) (nat_le c.low.result) in
    let most : (ℕ → Bool) → Bool = λ f. tests (v f) (λ n. nat_le n c.high.result) in
    ok_as c.and.new.self (λ f. least f && most f) _ c.and.result
    (λ f. rw (c.low.ensures, c.high.ensures) (both_pass (v f) (nat_le c.args.range.low) (λ n. nat_le n c.args.range.high)))
    (and_ok c.bounded-2.new.diagrams c.and.new.self c.in_ok-least.least c.in_ok-most.most least most c.and.result
    (means_kept c.bounded.new.diagrams c.bounded-2.new.diagrams c.in_ok-least.least least c.bounded-2.ensures.keeps c.in_ok-least.ensures.value)
    c.in_ok-most.ensures.value c.and.ensures.value)

pub returns-in-len1-clause-value : goal.returns-in-len1-clause-value
returns-in-len1-clause-value c =
    single_ok c.ranged.new.diagrams c.args.reader c.args.selectors.now _ (in_range c.args.range) c.ranged.result c.in-len1.len_at_least c.in-len1.len_below
    c.ranged.ensures.value
