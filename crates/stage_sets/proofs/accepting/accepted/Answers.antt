use Rattle.std.proofs.Common.{All, Contains, List, ap, filter, map, subst, sym, ◌∙◌}
use Rattle.packet_sets.specs.Sets.{Means}
use Rattle.rule_meaning.specs.Hooks.{base_chains_of}
use Rattle.fact_sets.specs.declared.cases.Case.{Case}
use Rattle.rule_sets.specs.Interfaces.{interfaces_of}
use Rattle.rule_sets.proofs.Sorting.{keeps_trans}
use Rattle.chain_ways.specs.BaseWays.{filters_of}
use Rattle.chain_sets.specs.steps.Merging.{some_outcome}
use Rattle.stage_sets.specs.declared.bases.Asked.TheVariants.{Filters}
use Rattle.stage_sets.specs.declared.outcome.StageOutcome.{StageOutcome}
use Rattle.stage_sets.specs.steps.Bases.{StandsIn, base_chain, is_asked}
use Rattle.stage_sets.specs.steps.Outcomes.{goes_accepted}
use Rattle.chain_ways.proofs.Nesting.{nests_among}
use Rattle.chain_sets.specs.declared.ways.TheConstants.{LEVELS}
use Rattle.chain_sets.proofs.Nesting.{never, passed_on}
use Rattle.stage_sets.proofs.AcceptedSets.{accepted_by_filters}
use Rattle.stage_sets.proofs.AllChains.{same_ends}
use Rattle.stage_sets.proofs.InStage.{text_stands}
use Rattle.stage_sets.proofs.accepting.accepted.Goals as goal

pub through_all-requires-clause-bases : goal.through_all-requires-clause-bases
through_all-requires-clause-bases c =
    let same = c.deref.ensures.value ∙ sym c.deref-2.ensures.value in
    subst (All (StandsIn c.deref-2.result.now)) (sym c.deref-3.ensures.value)
    (text_stands c.deref-2.result.now (is_asked Filters) c.in_ok-bases.bases.items
    (c.in_ok-bases.ensures ∙ ap (λ tables. filter (is_asked Filters) (base_chains_of tables)) same))

pub returns-in_err-accepted_of-clause-keeps : goal.returns-in_err-accepted_of-clause-keeps
returns-in_err-accepted_of-clause-keeps c =
    keeps_trans c.args.diagrams.now c.through_all.new.diagrams c.accepted_of.new.diagrams c.through_all.ensures.keeps c.accepted_of.ensures.keeps

pub returns-clause-keeps : goal.returns-clause-keeps
returns-clause-keeps c =
    keeps_trans c.args.diagrams.now c.through_all.new.diagrams c.accepted_of.new.diagrams c.through_all.ensures.keeps c.accepted_of.ensures.keeps

pub returns-clause-value : goal.returns-clause-value
returns-clause-value c =
    let checked = c.args.checked.now in
    let d0 = c.args.diagrams.now in
    let d = c.through_all.new.diagrams in
    let e = c.accepted_of.new.diagrams in
    let found = c.in_ok-accepted_of.field-0 in
    accepted_by_filters (interfaces_of checked.network) checked.network checked.rules d0 d e c.args.set found c.in_ok-outcomes.outcomes.items
    (same_ends _ (interfaces_of checked.network) _ checked.network c.deref-2.result.now checked.rules (map base_chain c.deref-3.result.now)
    (filters_of checked.rules) d0 d c.args.set c.in_ok-outcomes.outcomes.items
    (c.in_ok-interfaces.ensures ∙ ap interfaces_of c.plant-network.ensures) c.plant-network.ensures
    (c.deref-2.ensures.value ∙ c.in_ok-tables.ensures)
    (ap (map base_chain) c.deref-3.ensures.value ∙ c.in_ok-bases.ensures ∙ ap filters_of (c.deref.ensures.value ∙ c.in_ok-tables.ensures))
    c.in_ok-outcomes.ensures.value)
    (subst (λ (l : List (Case StageOutcome)). Means e found (λ packet. some_outcome d l packet goes_accepted)) c.deref-4.ensures.value
    c.in_ok-accepted_of.ensures.value)

pub returns-in_err-outcomes-clause-too_deep : goal.returns-in_err-outcomes-clause-too_deep
returns-in_err-outcomes-clause-too_deep c = passed_on c.from_residual-in_err-outcomes.result _ (λ e same deep.
    let checked = c.args.checked.now in
    nests_among LEVELS _ checked.network _ checked.rules (map base_chain c.deref-3.result.now) (filters_of checked.rules) c.plant-network.ensures
    (c.deref-2.ensures.value ∙ c.in_ok-tables.ensures)
    (λ b among. subst (λ l. Contains l b) (ap (map base_chain) c.deref-3.ensures.value ∙ c.in_ok-bases.ensures
    ∙ ap filters_of (c.deref.ensures.value ∙ c.in_ok-tables.ensures)) among) (c.in_err-outcomes.ensures.too_deep (sym same ∙ deep)))
    c.from_residual-in_err-outcomes.ensures.1

pub returns-in_err-accepted_of-clause-too_deep : goal.returns-in_err-accepted_of-clause-too_deep
returns-in_err-accepted_of-clause-too_deep c = never _ c.from_residual-in_err-accepted_of.result _ c.from_residual-in_err-accepted_of.ensures.1
