use Rattle.std.proofs.Common.{◌∙◌, ap, map}
use Rattle.rule_meaning.specs.Statements.{with_value}
use Rattle.action_cases.specs.declared.cases.Outcome.TheVariants as outcomes
use Rattle.action_cases.specs.Effects.{outcome_effect}
use Rattle.action_cases.specs.steps.Picking.{with_outcome}
use Rattle.action_cases.proofs.CaseLaws.{decides_map, destination_given, source_given}
use Rattle.action_cases.proofs.cases.action_cases.Goals as goal

pub returns-in_ok-verdicts-in-LookUpVerdict-clause-value : goal.returns-in_ok-verdicts-in-LookUpVerdict-clause-value
returns-in_ok-verdicts-in-LookUpVerdict-clause-value c =
    let picks = rw c.deref-in-LookUpVerdict.ensures.value at c.in_ok-found-in-LookUpVerdict.ensures.value in
    rw c.in-LookUpVerdict.is
    (decides_map c.looked_up.new.diagrams c.args.reader outcomes.Gives c.in_ok-found-in-LookUpVerdict.found.items
    c.in_ok-verdicts-in-LookUpVerdict.field-0.items _
    (c.in_ok-verdicts-in-LookUpVerdict.ensures ∙ ap (map (with_outcome outcomes.Gives)) c.deref-in-LookUpVerdict-2.ensures.value) picks.are
    (λ f. ap (with_value (λ v. outcome_effect c.args.reader (outcomes.Gives v) f)) (picks.same f)))

pub returns-in_ok-sources-in-TranslateSource-clause-value : goal.returns-in_ok-sources-in-TranslateSource-clause-value
returns-in_ok-sources-in-TranslateSource-clause-value c =
    let picks = rw c.deref-in-TranslateSource.ensures.value at c.in_ok-found-in-TranslateSource.ensures.value in
    rw c.in-TranslateSource.is
    (decides_map c.looked_up-in-TranslateSource.new.diagrams c.args.reader source_given c.in_ok-found-in-TranslateSource.found.items
    c.in_ok-sources-in-TranslateSource.field-0.items _
    (c.in_ok-sources-in-TranslateSource.ensures ∙ ap (map (with_outcome source_given)) c.deref-in-TranslateSource-2.ensures.value) picks.are
    (λ f. ap (with_value (λ v. outcome_effect c.args.reader (source_given v) f)) (picks.same f)))

pub returns-in_ok-destinations-in-TranslateDestination-clause-value : goal.returns-in_ok-destinations-in-TranslateDestination-clause-value
returns-in_ok-destinations-in-TranslateDestination-clause-value c =
    let picks = rw c.deref-in-TranslateDestination.ensures.value at c.in_ok-found-in-TranslateDestination.ensures.value in
    rw c.in-TranslateDestination.is
    (decides_map c.looked_up-in-TranslateDestination.new.diagrams c.args.reader destination_given c.in_ok-found-in-TranslateDestination.found.items
    c.in_ok-destinations-in-TranslateDestination.field-0.items _
    (c.in_ok-destinations-in-TranslateDestination.ensures ∙ ap (map (with_outcome destination_given)) c.deref-in-TranslateDestination-2.ensures.value) picks.are
    (λ f. ap (with_value (λ v. outcome_effect c.args.reader (destination_given v) f)) (picks.same f)))
