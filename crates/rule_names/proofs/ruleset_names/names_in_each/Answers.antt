use Rattle.rule_names.proofs.Names.{All, HasUniqueNames, [], ap, ap₂, arith, map, map-append, map-more, subst, sym, table_tree, take, ⊎_elim}
use Rattle.rule_names.proofs.Names.{◌++◌, ◌∙◌, ◌∷◌}
use Rattle.std.proofs.lemmas.List.{take_all}
use Rattle.std.proofs.lemmas.List.Elements.{All-push}
use Rattle.std.proofs.lemmas.Option.{MatchOption-at_none}
use Rattle.rule_names.specs.Indexed.{names_in}
use Rattle.rule_names.specs.Names.{two_chains, two_sets_or_maps}
use Rattle.rule_names.specs.steps.Table.{AreIndexed, HasDuplicateIn, IsIndexOf}
use Rattle.rule_names.proofs.Additions.{indexed}
use Rattle.rule_names.proofs.Lists.{Contains-map}
use Rattle.rule_names.proofs.ruleset_names.names_in_each.Goals as goal

pub returns-in_default : goal.returns-in_default
returns-in_default c =
    let t = table_tree c.table-item.result in
    let member = Contains-map table_tree c.args.tables.now c.loop-table.table-index c.table-item.result (omega arith) c.table-item.is in
    ⊎_elim (two_chains t member) (two_sets_or_maps t member)
    (MatchOption-at_none (HasDuplicateIn t.items) (IsIndexOf t.items) c.in_default.is
    (rw c.deref.ensures.value at c.in_ok-of_table.ensures))

pub loop-table-preserved : goal.loop-table-preserved
loop-table-preserved c =
    let t = table_tree c.table-item.result in
    let more = map-more table_tree c.args.tables.now c.loop-table.table-index c.table-item.result (omega arith) c.table-item.is in
    let known : IsIndexOf t.items c.in-Some.of_table = rw (c.in-Some.is, c.deref.ensures.value) at c.in_ok-of_table.ensures in (
      c.in_ok-push.ensures.items ∙ ap₂ (λ xs x. xs ++ x ∷ []) c.loop-table.invariant.0 (indexed t.items c.in-Some.of_table known)
          ∙ sym (map-append names_in (map table_tree (take c.loop-table.table-index c.args.tables.now)) (t ∷ [])) ∙ ap (map names_in) (sym more),
      subst (All HasUniqueNames) (sym more) (All-push HasUniqueNames (map table_tree (take c.loop-table.table-index c.args.tables.now)) t
          c.loop-table.invariant.1 (⊎_elim known.chains_apart known.both_apart)),
    )

pub returns : goal.returns
returns c = subst (λ ts. AreIndexed (map table_tree ts) c.loop-table.names.items)
    (take_all c.loop-table.table-index c.args.tables.now c.loop-table-test.false) c.loop-table.invariant
