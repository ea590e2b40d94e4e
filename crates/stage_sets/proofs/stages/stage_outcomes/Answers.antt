use Rattle.std.proofs.Common.{All, Contains, ap, filter, map, subst, sym, ◌∙◌}
use Rattle.std.proofs.lemmas.Result.{IfErr-weaker, IfOk-weaker}
use Rattle.rule_meaning.specs.Hooks.{base_chains_of, chains_in_stage}
use Rattle.rule_sets.specs.Interfaces.{interfaces_of}
use Rattle.chain_ways.specs.BaseWays.{AreChainsOf}
use Rattle.stage_sets.specs.steps.Bases.{StandsIn, base_chain}
use Rattle.chain_ways.proofs.Nesting.{nests_among}
use Rattle.chain_ways.proofs.Stages.{in_text}
use Rattle.chain_sets.specs.declared.ways.TheConstants.{LEVELS}
use Rattle.stage_sets.proofs.AllChains.{same_ends}
use Rattle.stage_sets.proofs.InStage.{all_stand}
use Rattle.stage_sets.proofs.stages.stage_outcomes.Goals as goal

pub through_all-requires-clause-bases : goal.through_all-requires-clause-bases
through_all-requires-clause-bases c =
    let bases = c.in_ok-bases.bases.items in
    let same = c.deref.ensures.value ∙ sym c.deref-2.ensures.value in
    subst (All (StandsIn c.deref-2.result.now)) (sym c.deref-3.ensures.value)
    (all_stand c.deref-2.result.now c.args.stage bases
    (subst (λ tables. AreChainsOf tables c.args.stage (map base_chain bases)) same c.in_ok-bases.ensures))

pub returns-clause-value : goal.returns-clause-value
returns-clause-value c = IfOk-weaker c.through_all.result _ _ (λ outcomes ends order are.
    let checked = c.args.checked.now in
    let bases = c.in_ok-bases.bases.items in
    let here = subst (λ tables. AreChainsOf tables c.args.stage (map base_chain bases)) (c.deref.ensures.value ∙ c.in_ok-tables.ensures)
    c.in_ok-bases.ensures in
    same_ends _ _ _ _ _ _ _ _ _ _ _ _ (c.in_ok-interfaces.ensures ∙ ap interfaces_of c.plant-network.ensures) c.plant-network.ensures
    (c.deref-2.ensures.value ∙ c.in_ok-tables.ensures)
    (ap (map base_chain) c.deref-3.ensures.value
    ∙ c.hook_result_unique.ensures.order (filter (chains_in_stage c.args.stage) (base_chains_of checked.rules)) (map base_chain bases) order here are)
    ends) c.through_all.ensures.value

pub returns-clause-too_deep : goal.returns-clause-too_deep
returns-clause-too_deep c = IfErr-weaker c.through_all.result _ _ (λ e why deep.
    let checked = c.args.checked.now in
    let order = map base_chain c.in_ok-bases.bases.items in
    let here = subst (λ tables. AreChainsOf tables c.args.stage order) (c.deref.ensures.value ∙ c.in_ok-tables.ensures) c.in_ok-bases.ensures in
    nests_among LEVELS _ checked.network _ checked.rules (map base_chain c.deref-3.result.now)
    (filter (chains_in_stage c.args.stage) (base_chains_of checked.rules)) c.plant-network.ensures (c.deref-2.ensures.value ∙ c.in_ok-tables.ensures)
    (λ b among. in_text (filter (chains_in_stage c.args.stage) (base_chains_of checked.rules)) order here b
    (subst (λ l. Contains (map base_chain l) b) c.deref-3.ensures.value among)) (why deep)) c.through_all.ensures.too_deep
