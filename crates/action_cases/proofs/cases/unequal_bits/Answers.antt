use Rattle.std.proofs.Common.{◌==◌, bit_and, ℕ, Bool, [], ◌∷◌, true}
use Rattle.rule_meaning.specs.Matches.{tests}
use Rattle.rule_meaning.specs.Selectors.{joined_value, value}
use Rattle.fact_sets.specs.Cases.{seen}
use Rattle.fact_sets.proofs.SetLaws.{keeps_trans}
use Rattle.action_cases.proofs.CaseLaws.{not_ok, single, some_passes}
use Rattle.action_cases.proofs.cases.unequal_bits.Goals as goal

pub returns-clause-keeps : goal.returns-clause-keeps
returns-clause-keeps c = keeps_trans c.args.diagrams.now c.passing.new.diagrams c.others.new.diagrams (c.passing.ensures.keeps) c.others.ensures.keeps

pub returns-clause-value : goal.returns-clause-value
returns-clause-value c =
    let s = c.args.selector in
    let t : ℕ → Bool = λ n. bit_and n c.args.mask == c.args.wanted in
    not_ok c.passing.new.diagrams c.others.new.diagrams c.in_ok-equal.equal (λ f. tests (joined_value (s ∷ []) (seen c.args.reader f)) (λ n. true))
    (λ f. tests (value s (seen c.args.reader f)) t) _ c.others.result c.in_ok-equal.ensures.value
    (λ f. rw (single s (seen c.args.reader f)) (some_passes (value s (seen c.args.reader f)) t)) c.others.ensures.value
