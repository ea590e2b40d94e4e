use Rattle.std.proofs.Common.{[], Contains, get_or, length, map, refl, subst, sym, take, ◌∙◌}
use Rattle.std.proofs.lemmas.List.Elements.{Contains-get_or}
use Rattle.std.proofs.lemmas.Option.{slice_get_read}
use Rattle.list_laws.specs.Elements.{Contains-map}
use Rattle.list_laws.specs.Lists.{map-more}
use Rattle.rule_sets.proofs.Sorting.{keeps_same, keeps_trans}
use Rattle.chain_ways.specs.BaseWays.{end_of_chains}
use Rattle.stage_sets.specs.Ends.{AreStageEnds}
use Rattle.stage_sets.specs.steps.Bases.{StandsIn, base_chain}
use Rattle.chain_ways.proofs.Nesting.{nests_here}
use Rattle.chain_sets.proofs.Nesting.{passed_on}
use Rattle.chain_sets.specs.declared.ways.TheConstants.{LEVELS}
use Rattle.stage_sets.proofs.AllChains.{at_index, bounds_at, none_yet, one_more, types_at}
use Rattle.stage_sets.proofs.stages.through_all.Goals as goal

pub loop-base-init : goal.loop-base-init
loop-base-init c =
    let d = c.args.diagrams.now in
    record {
      keeps = keeps_same d;
      ends = subst (λ l. AreStageEnds c.args.interfaces.now (end_of_chains c.args.network.now c.args.tables.now []) d d c.args.set l)
          (sym c.in_ok-outcomes.ensures) (none_yet c.args.network.now c.args.tables.now c.args.interfaces.now c.args.set d c.requires.set);
    }

pub through-requires-clause-types : goal.through-requires-clause-types
through-requires-clause-types c =
    let tables = c.args.tables.now in
    let b = c.base-item.result in
    let lt = subst (StandsIn tables) (sym c.base-item.is) (c.requires.bases c.loop-base.base-index b c.loop-base-test.true) in
    types_at c.args.network.now tables b.number.table c.index-tables-base.result c.requires.fine
    (slice_get_read tables (length tables) b.number.table c.index-tables-base.result refl lt c.index-tables-base.is)

pub through-requires-clause-bounds : goal.through-requires-clause-bounds
through-requires-clause-bounds c =
    let tables = c.args.tables.now in
    let b = c.base-item.result in
    let lt = subst (StandsIn tables) (sym c.base-item.is) (c.requires.bases c.loop-base.base-index b c.loop-base-test.true) in
    bounds_at c.args.network.now tables b.number.table c.index-tables-base.result c.requires.fine
    (slice_get_read tables (length tables) b.number.table c.index-tables-base.result refl lt c.index-tables-base.is)

pub returns-in_err-outcomes-2-clause-keeps : goal.returns-in_err-outcomes-2-clause-keeps
returns-in_err-outcomes-2-clause-keeps c =
    keeps_trans c.args.diagrams.now c.loop-base.diagrams c.through.new.diagrams c.loop-base.invariant.keeps c.through.ensures.keeps

pub loop-base-preserved : goal.loop-base-preserved
loop-base-preserved c =
    let network = c.args.network.now in
    let tables = c.args.tables.now in
    let inside = c.args.interfaces.now in
    let bases = c.args.bases.now in
    let i = c.loop-base.base-index in
    let b = c.base-item.result in
    let names = c.index-tables-base.result in
    let d0 = c.args.diagrams.now in
    let d = c.loop-base.diagrams in
    let e = c.through.new.diagrams in
    let before = c.loop-base.outcomes.items in
    let after = c.in_ok-outcomes-2.outcomes.items in
    let lt = subst (StandsIn tables) (sym c.base-item.is) (c.requires.bases i b c.loop-base-test.true) in
    let at = slice_get_read tables (length tables) b.number.table names refl lt c.index-tables-base.is in
    record {
      keeps = keeps_trans d0 d e c.loop-base.invariant.keeps c.through.ensures.keeps;
      ends = subst (λ bs. AreStageEnds inside (end_of_chains network tables bs) d0 e c.args.set after)
          (sym (map-more base_chain bases i b c.loop-base-test.true c.base-item.is))
          (one_more network tables inside c.args.set d0 d e (map base_chain (take i bases)) (base_chain b) before after c.loop-base.invariant.ends
          (at_index network tables inside (base_chain b) names d e c.deref.result.now before after at c.deref.ensures.value
          c.in_ok-outcomes-2.ensures.value));
    }

pub returns-in_err-outcomes-2-clause-too_deep : goal.returns-in_err-outcomes-2-clause-too_deep
returns-in_err-outcomes-2-clause-too_deep c = passed_on c.from_residual-in_err-outcomes-2.result _ (λ e same deep.
    let network = c.args.network.now in
    let tables = c.args.tables.now in
    let bases = c.args.bases.now in
    let i = c.loop-base.base-index in
    let b = c.base-item.result in
    let lt = subst (StandsIn tables) (sym c.base-item.is) (c.requires.bases i b c.loop-base-test.true) in
    nests_here LEVELS network tables (map base_chain bases) (base_chain b) c.index-tables-base.result
    (slice_get_read tables (length tables) b.number.table c.index-tables-base.result refl lt c.index-tables-base.is)
    (subst (λ x. Contains (map base_chain bases) (base_chain x)) (sym c.base-item.is)
    (Contains-map base_chain bases (get_or bases i b) (Contains-get_or bases i b c.loop-base-test.true)))
    (c.in_err-outcomes-2.ensures.too_deep (sym same ∙ deep))) c.from_residual-in_err-outcomes-2.ensures.1
