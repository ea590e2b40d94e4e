use Rattle.rule_names.proofs.Names.{[], ap, ap₂, arith, get_or, map, map-more, sym, table_tree, ⊎_elim, ◌++◌, ◌+◌, ◌∙◌, ◌∷◌}
use Rattle.std.proofs.lemmas.List.{take_all}
use Rattle.rule_names.specs.Names.{two_chains, two_sets_or_maps}
use Rattle.rule_names.proofs.Lists.{Contains-map}
use Rattle.rule_names.proofs.Tables.{names-at}
use Rattle.rule_names.proofs.ruleset_names.RulesetNames.tables.Goals as goal

pub new-requires-clause-names : goal.new-requires-clause-names
new-requires-clause-names c =
    names-at c.args.tree.now.tables.items c.loop-place.place c.table-item.result c.index.result.now
    (rw c.deref-table-items.ensures.value at c.loop-place-test.true) (rw c.deref-table-items.ensures.value at c.table-item.is)
    (c.index.ensures ∙ ap (λ names. get_or names c.loop-place.place c.index.result.now) (c.self.view_is ∙ c.requires.names))

pub new-requires-clause-apart : goal.new-requires-clause-apart
new-requires-clause-apart c =
    let t = table_tree c.table-item.result in
    let member = Contains-map table_tree c.args.tree.now.tables.items c.loop-place.place c.table-item.result
    (rw c.deref-table-items.ensures.value at c.loop-place-test.true) (rw c.deref-table-items.ensures.value at c.table-item.is) in
    λ twice. c.requires.apart (⊎_elim (two_chains t member) (two_sets_or_maps t member) twice)

pub loop-place-preserved : goal.loop-place-preserved
loop-place-preserved c = record {
  named = c.push_reserved.ensures.items ∙ ap₂ (λ ts t. ts ++ t ∷ []) c.loop-place.invariant.named c.in_ok-new.ensures
      ∙ sym (map-more table_tree c.args.tree.now.tables.items c.loop-place.place c.table-item.result
      (rw c.deref-table-items.ensures.value at c.loop-place-test.true) (rw c.deref-table-items.ensures.value at c.table-item.is));
  count = c.push_reserved.ensures.len ∙ ap (λ n. n + 1) c.loop-place.invariant.count;
  room = let capacity = c.push_reserved.ensures.capacity in omega arith;
}

pub returns : goal.returns
returns c = c.loop-place.invariant.named ∙ ap (map table_tree)
    (take_all c.loop-place.place c.args.tree.now.tables.items (rw c.deref-table-items.ensures.value at c.loop-place-test.false))
