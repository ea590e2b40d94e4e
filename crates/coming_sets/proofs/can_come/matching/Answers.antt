use Rattle.std.proofs.Common.{ap}
use Rattle.std.proofs.lemmas.Result.{IfOk-weaker}
use Rattle.nft_values.specs.Values.{span_of}
use Rattle.rule_meaning.specs.Matches.{compares, tests}
use Rattle.rule_meaning.specs.Selectors.{value}
use Rattle.rule_meaning.specs.Statements.{passes_if}
use Rattle.fact_sets.proofs.SetLaws.{keeps_twice}
use Rattle.coming_sets.specs.Coming.{matches}
use Rattle.coming_sets.proofs.Matching.{match_means, span_is}
use Rattle.coming_sets.proofs.can_come.matching.Goals as goal

pub returns-clause-keeps : goal.returns-clause-keeps
returns-clause-keeps c = keeps_twice c.args.diagrams.now c.action_cases.new.diagrams c.sorted.new.diagrams c.not.new.self c.action_cases.ensures.keeps
    c.sorted.ensures.keeps c.not.ensures.keeps

pub returns-clause-value : goal.returns-clause-value
returns-clause-value c =
    let r = c.unwrap-range.result in
    let spans = span_is c.new.result r c.args.number c.new.ensures c.unwrap-range.ensures in
    IfOk-weaker c.not.result _ _ (λ set h. match_means c.action_cases.new.diagrams c.sorted.new.diagrams c.not.new.self c.args.reader c.in_ok-cases.cases.items
    c.in_ok-parts.parts.cases.items (record { node = 1 }) c.in_ok-parts.parts.rest set
    (λ f. passes_if (tests (value c.args.selector f) (compares c.args.operator (span_of r)))) (matches c.args.selector c.args.operator c.args.number)
    (λ f. ap (λ s. passes_if (tests (value c.args.selector f) (compares c.args.operator s))) spans) c.in_ok-cases.ensures.value c.ends.ensures.all
    (rw c.deref.ensures.value at c.in_ok-parts.ensures.value) h) c.not.ensures.value
