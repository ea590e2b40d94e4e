use Rattle.std.proofs.Common.{[], ◌∙◌, ◌∷◌, refl, sym}
use Rattle.list_laws.specs.Lists.{Contains-head}
use Rattle.fact_sets.proofs.SetLaws.{keeps_trans}
use Rattle.rule_reach.specs.declared.sets.BaseSets.{BaseSets}
use Rattle.chain_sets.proofs.Nesting.{passed_on}
use Rattle.coming_sets.specs.Bases.{base_chain}
use Rattle.chain_ways.proofs.Nesting.{nests_here}
use Rattle.chain_sets.specs.declared.ways.TheConstants.{LEVELS}
use Rattle.rule_reach.proofs.Made.{made, one_more}
use Rattle.rule_reach.proofs.Nesting.{deep_way, not_deep}
use Rattle.rule_reach.proofs.making.add_base.Goals as goal

pub returns-clause-sets : goal.returns-clause-sets
returns-clause-sets c = λ tables before stands was.
    let network = c.args.place.setting.network.now in
    let names = c.args.place.setting.names.now in
    let b = base_chain c.args.base in
    let made_sets = c.in_ok-sets.sets in
    let s : BaseSets = record { chain = c.args.base.number; coming = c.in_ok-coming.coming; rules = made_sets.rules; ends = made_sets.ends } in
    let keeps = keeps_trans c.args.diagrams.now c.coming.new.diagrams c.chain_sets.new.diagrams c.coming.ensures.keeps c.chain_sets.ensures.keeps in
    let here = made network tables b names c.coming.new.diagrams c.chain_sets.new.diagrams s c.args.place.interfaces.now c.requires.interfaces stands refl
    c.chain_sets.ensures.keeps c.in_ok-coming.ensures.value c.in_ok-sets.ensures.value in
    rw c.in_ok-push.ensures.items
    (one_more network tables c.args.diagrams.now c.chain_sets.new.diagrams before b c.args.bases.now.items s keeps here was)

pub returns-in_err-coming-clause-too_deep : goal.returns-in_err-coming-clause-too_deep
returns-in_err-coming-clause-too_deep c = passed_on c.from_residual.result _ (λ e is deep. absurd (not_deep _ (sym is ∙ deep)))
    c.from_residual.ensures.1

pub returns-in_err-sets-clause-too_deep : goal.returns-in_err-sets-clause-too_deep
returns-in_err-sets-clause-too_deep c = passed_on c.from_residual-in_err-sets.result _ (λ e is deep tables stands.
    let b = base_chain c.args.base in
    nests_here LEVELS c.args.place.setting.network.now tables (b ∷ []) b c.args.place.setting.names.now stands (Contains-head b [])
    (c.in_err-sets.ensures.too_deep (deep_way _ (sym is ∙ deep)))) c.from_residual-in_err-sets.ensures.1
