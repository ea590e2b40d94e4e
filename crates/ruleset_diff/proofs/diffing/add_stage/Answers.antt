use Rattle.std.proofs.Common.{ap, filter, refl, subst, sym, ◌&&◌, ◌∙◌}
use Rattle.std.proofs.lemmas.Option.{IfSome_then}
use Rattle.fact_sets.proofs.SetLaws.{keeps_trans}
use Rattle.packet_sets.specs.Sets.{Means}
use Rattle.fact_sets.specs.Boxes.{NOTHING}
use Rattle.fact_sets.specs.Facts.{facts_of}
use Rattle.rule_meaning.specs.Hooks.{base_chains_of, chains_in_stage}
use Rattle.rule_sets.specs.Interfaces.{interfaces_of}
use Rattle.rule_sets.proofs.Sorting.{are-kept}
use Rattle.chain_ways.specs.BaseWays.{StageRunsAreWays, end_of_chains}
use Rattle.chain_ways.proofs.Nesting.{nests_among}
use Rattle.chain_ways.proofs.Stages.{in_list}
use Rattle.chain_sets.proofs.Nesting.{never, passed_on}
use Rattle.chain_sets.specs.declared.ways.TheConstants.{LEVELS}
use Rattle.coming_sets.specs.Coming.{can_come_to}
use Rattle.stage_sets.specs.Ends.{AreStageEnds}
use Rattle.ruleset_diff.specs.Differences.{assumption}
use Rattle.ruleset_diff.specs.Nesting.{in_assumed, in_new, in_old}
use Rattle.ruleset_diff.proofs.Stages.{stage_added}
use Rattle.ruleset_diff.proofs.diffing.add_stage.Goals as goal

pub coming_within-requires : goal.coming_within-requires
coming_within-requires c =
    IfSome_then c.args.assumed c.requires.assumed_box (λ filter same. c.requires.interfaces ∙ ap interfaces_of (sym same))

pub compare_all-requires-clause-old : goal.compare_all-requires-clause-old
compare_all-requires-clause-old c =
    let old = c.args.old.now in
    let ways = c.stage_runs_are_ways.ensures old.rules old.network c.requires.old c.args.stage in
    rw c.deref.ensures.value (are-kept c.stage_outcomes.new.diagrams c.stage_outcomes-2.new.diagrams c.in_ok-by_old.by_old.items
    c.stage_outcomes-2.ensures.keeps (c.in_ok-by_old.ensures.value ways.order ways.are).are)

pub compare_all-requires-clause-new : goal.compare_all-requires-clause-new
compare_all-requires-clause-new c =
    let new = c.args.new.now in
    let ways = c.stage_runs_are_ways.ensures new.rules new.network c.requires.new c.args.stage in
    rw c.deref-2.ensures.value ((c.in_ok-by_new.ensures.value ways.order ways.are).are)

pub returns-clause-adds : goal.returns-clause-adds
returns-clause-adds c =
    let old = c.args.old.now in
    let new = c.args.new.now in
    let stage = c.args.stage in
    let old_ways = c.stage_runs_are_ways.ensures old.rules old.network c.requires.old stage in
    let new_ways = subst (λ q. StageRunsAreWays q new.rules stage) c.requires.same_box
    (c.stage_runs_are_ways.ensures new.rules new.network c.requires.new stage) in
    let d1 = c.coming_within.new.diagrams in
    let d2 = c.stage_outcomes.new.diagrams in
    let d3 = c.stage_outcomes-2.new.diagrams in
    let coming = c.in_ok-coming.coming in
    let by_old = subst (λ l. AreStageEnds (interfaces_of old.network) (end_of_chains old.network old.rules old_ways.order) d1 d2 coming l)
    (sym c.deref.ensures.value) (c.in_ok-by_old.ensures.value old_ways.order old_ways.are) in
    let by_new = subst (λ l. AreStageEnds (interfaces_of old.network) (end_of_chains old.network new.rules new_ways.order) d2 d3 coming l)
    (sym c.deref-2.ensures.value)
    (subst (λ q. AreStageEnds (interfaces_of q) (end_of_chains q new.rules new_ways.order) d2 d3 coming c.in_ok-by_new.by_new.items)
    c.requires.same_box (c.in_ok-by_new.ensures.value new_ways.order new_ways.are)) in
    stage_added old.network old.rules new.rules stage old_ways new_ways d1 d2 d3 c.compare_all.new.diagrams c.stage_outcomes.ensures.keeps
    c.stage_outcomes-2.ensures.keeps c.compare_all.ensures.keeps
    (assumption c.args.assumed) coming
    (subst (λ l. Means d1 coming (λ p. can_come_to stage (facts_of l NOTHING p) && assumption c.args.assumed (facts_of l NOTHING p)))
    c.requires.interfaces c.in_ok-coming.ensures.value)
    c.deref.result.now c.deref-2.result.now by_old by_new c.args.differences.now.items c.compare_all.new.differences.items
    c.in_ok-compare_all.ensures.compared (c.facts_have_bits.ensures (interfaces_of old.network))

pub returns-in_err-by_old-clause-keeps : goal.returns-in_err-by_old-clause-keeps
returns-in_err-by_old-clause-keeps c = keeps_trans c.args.diagrams.now c.coming_within.new.diagrams c.stage_outcomes.new.diagrams c.coming_within.ensures.keeps c.stage_outcomes.ensures.keeps

pub returns-in_err-by_new-clause-keeps : goal.returns-in_err-by_new-clause-keeps
returns-in_err-by_new-clause-keeps c = keeps_trans c.args.diagrams.now c.stage_outcomes.new.diagrams c.stage_outcomes-2.new.diagrams (keeps_trans c.args.diagrams.now c.coming_within.new.diagrams c.stage_outcomes.new.diagrams c.coming_within.ensures.keeps c.stage_outcomes.ensures.keeps) c.stage_outcomes-2.ensures.keeps

pub returns-in_err-compare_all-clause-keeps : goal.returns-in_err-compare_all-clause-keeps
returns-in_err-compare_all-clause-keeps c = keeps_trans c.args.diagrams.now c.stage_outcomes-2.new.diagrams c.compare_all.new.diagrams (keeps_trans c.args.diagrams.now c.stage_outcomes.new.diagrams c.stage_outcomes-2.new.diagrams (keeps_trans c.args.diagrams.now c.coming_within.new.diagrams c.stage_outcomes.new.diagrams c.coming_within.ensures.keeps c.stage_outcomes.ensures.keeps) c.stage_outcomes-2.ensures.keeps) c.compare_all.ensures.keeps

pub returns-clause-keeps : goal.returns-clause-keeps
returns-clause-keeps c = keeps_trans c.args.diagrams.now c.stage_outcomes-2.new.diagrams c.compare_all.new.diagrams (keeps_trans c.args.diagrams.now c.stage_outcomes.new.diagrams c.stage_outcomes-2.new.diagrams (keeps_trans c.args.diagrams.now c.coming_within.new.diagrams c.stage_outcomes.new.diagrams c.coming_within.ensures.keeps c.stage_outcomes.ensures.keeps) c.stage_outcomes-2.ensures.keeps) c.compare_all.ensures.keeps

pub returns-in_err-coming-clause-too_deep : goal.returns-in_err-coming-clause-too_deep
returns-in_err-coming-clause-too_deep c =
    passed_on c.from_residual.result _ (λ e same deep. in_assumed (c.in_err-coming.ensures.too_deep (sym same ∙ deep))) c.from_residual.ensures.1

pub returns-in_err-by_old-clause-too_deep : goal.returns-in_err-by_old-clause-too_deep
returns-in_err-by_old-clause-too_deep c = passed_on c.from_residual-in_err-by_old.result _ (λ e same deep.
    let old = c.args.old.now in
    let bases = base_chains_of old.rules in
    in_old (nests_among LEVELS old.network old.network old.rules old.rules (filter (chains_in_stage c.args.stage) bases) bases refl refl
    (in_list (chains_in_stage c.args.stage) bases) (c.in_err-by_old.ensures.too_deep (sym same ∙ deep))))
    c.from_residual-in_err-by_old.ensures.1

pub returns-in_err-by_new-clause-too_deep : goal.returns-in_err-by_new-clause-too_deep
returns-in_err-by_new-clause-too_deep c = passed_on c.from_residual-in_err-by_new.result _ (λ e same deep.
    let new = c.args.new.now in
    let bases = base_chains_of new.rules in
    in_new (nests_among LEVELS new.network c.args.old.now.network new.rules new.rules (filter (chains_in_stage c.args.stage) bases) bases
    c.requires.same_box refl (in_list (chains_in_stage c.args.stage) bases) (c.in_err-by_new.ensures.too_deep (sym same ∙ deep))))
    c.from_residual-in_err-by_new.ensures.1

pub returns-in_err-compare_all-clause-too_deep : goal.returns-in_err-compare_all-clause-too_deep
returns-in_err-compare_all-clause-too_deep c = never _ c.from_residual-in_err-compare_all.result _ c.from_residual-in_err-compare_all.ensures.1
