use Rattle.std.proofs.Common.{ap₂, map, subst, sym, [], ◌++◌, ◌∙◌}
use Rattle.fact_sets.specs.Cases.{AreCases}
use Rattle.rule_meaning.specs.Runs.{table_program}
use Rattle.rule_meaning.specs.Hooks.{policy_of}
use Rattle.rule_sets.proofs.Sorting.{keeps_trans}
use Rattle.chain_ways.specs.Ways.{way}
use Rattle.chain_ways.specs.BaseWays.{LEVELS}
use Rattle.chain_sets.specs.ChainSets.{AreOnWaysFrom}
use Rattle.chain_sets.specs.RuleSets.{sets_of}
use Rattle.chain_sets.specs.steps.Merging.{Adds, with_outcome}
use Rattle.stage_sets.specs.steps.Bases.{base_chain}
use Rattle.stage_sets.specs.steps.Outcomes.{outcome_at}
use Rattle.chain_sets.proofs.Nesting.{never}
use Rattle.stage_sets.proofs.AllChains.{enough}
use Rattle.stage_sets.proofs.Parts.{advanced, going-are}
use Rattle.stage_sets.proofs.through.through.Goals as goal

pub merged-requires : goal.merged-requires
merged-requires c = subst (AreCases c.args.diagrams.now) (sym (c.deref.ensures.value ∙ c.in_ok-parts.ensures))
    (going-are c.args.diagrams.now c.args.outcomes.now c.requires.outcomes)

pub returns-in_err-sets-clause-keeps : goal.returns-in_err-sets-clause-keeps
returns-in_err-sets-clause-keeps c =
    keeps_trans c.args.diagrams.now c.merged.new.diagrams c.chain_sets_from.new.diagrams c.merged.ensures.keeps c.chain_sets_from.ensures.keeps

pub returns-in_err-add_ends-clause-keeps : goal.returns-in_err-add_ends-clause-keeps
returns-in_err-add_ends-clause-keeps c =
    keeps_trans c.args.diagrams.now c.merged.new.diagrams c.chain_sets_from.new.diagrams c.merged.ensures.keeps c.chain_sets_from.ensures.keeps

pub returns-clause-keeps : goal.returns-clause-keeps
returns-clause-keeps c =
    keeps_trans c.args.diagrams.now c.merged.new.diagrams c.chain_sets_from.new.diagrams c.merged.ensures.keeps c.chain_sets_from.ensures.keeps

pub returns-clause-value : goal.returns-clause-value
returns-clause-value c =
    let number = c.args.base.number in
    let policy = policy_of (base_chain c.args.base).head in
    let p = table_program c.args.place.setting.network.now number.table c.args.place.setting.names.now in
    let inside = c.args.place.interfaces.now in
    let d0 = c.args.diagrams.now in
    let d1 = c.merged.new.diagrams in
    let d2 = c.chain_sets_from.new.diagrams in
    let states = c.in_ok-states.states.items in
    let sets = c.in_ok-sets.sets in
    advanced p inside (way p LEVELS number.chain) number policy d0 d1 d2 c.args.outcomes.now states (sets_of sets.rules) sets.ends.items
    c.add_ends.new.outcomes.items c.requires.outcomes c.merged.ensures.keeps c.chain_sets_from.ensures.keeps
    (subst (λ parts. Adds d0 d1 parts [] states) (c.deref.ensures.value ∙ c.in_ok-parts.ensures) c.in_ok-states.ensures.value)
    (subst (λ l. AreOnWaysFrom p inside (way p LEVELS number.chain) d1 d2 l (sets_of sets.rules) sets.ends.items) c.deref-2.ensures.value
    (c.in_ok-sets.ensures.value LEVELS enough))
    (c.in_ok-add_ends.ensures
    ∙ ap₂ (λ a e. a ++ map (with_outcome (outcome_at number policy)) e) c.in_ok-after.ensures c.deref-3.ensures.value)

pub returns-in_err-states-clause-too_deep : goal.returns-in_err-states-clause-too_deep
returns-in_err-states-clause-too_deep c = never _ c.from_residual-in_err-states.result _ c.from_residual-in_err-states.ensures.1
