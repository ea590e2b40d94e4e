use Rattle.rule_names.proofs.Names.{HasDuplicate, IsAdded, [], ap, ap₂, arith, map, refl, subst, sym, table_names, table_tree, ◌++◌, ◌∙◌, ◌∷◌}
use Rattle.std.proofs.lemmas.List.{take_all}
use Rattle.rule_names.proofs.Duplicates.{repeats-none}
use Rattle.rule_names.proofs.Tables.{names-duplicate, names-more, names-same, same-family}
use Rattle.rule_names.proofs.ruleset_names.has_duplicate_table.Goals as goal

pub loop-table-init : goal.loop-table-init
loop-table-init c = (c.new-names.ensures, λ r. repeats-none (subst HasDuplicate c.new-names.ensures r))

pub returns-then-not-branch : goal.returns-then-not-branch
returns-then-not-branch c =
    let same = sym (same-family c.table-item.result.family c.args.family) ∙ sym c.eq.ensures ∙ c.if-eq.true in
    let more = ap₂ (λ ns n. ns ++ n ∷ []) c.loop-table.invariant.0 c.deref.ensures.value
    ∙ sym (names-more c.args.family c.args.tables.now c.loop-table.table-index c.table-item.result c.loop-table-test.true c.table-item.is same) in
    let added = subst (IsAdded _ _ _) c.if-not-branch.true c.in_ok-add.ensures in (
      λ _. names-duplicate c.args.family c.args.tables.now c.loop-table.table-index c.table-item.result c.loop-table-test.true
          c.table-item.is (subst HasDuplicate more added),
      λ _. refl,
    )

pub loop-table-preserved : goal.loop-table-preserved
loop-table-preserved c =
    grind (
      arith,
      c.if-eq.branch,
      same-family,
      c.eq.ensures,
      c.loop-table.invariant.0,
      names-more,
      c.loop-table.table-index,
      c.table-item.is,
      names-same,
      c.loop-table.invariant.1,
    )

pub returns : goal.returns
returns c =
    let all = c.loop-table.invariant.0
    ∙ ap (λ ts. table_names c.args.family (map table_tree ts)) (take_all c.loop-table.table-index c.args.tables.now c.loop-table-test.false) in
    (λ h. cc, λ r. absurd (c.loop-table.invariant.1 (subst HasDuplicate (sym all) r)))
