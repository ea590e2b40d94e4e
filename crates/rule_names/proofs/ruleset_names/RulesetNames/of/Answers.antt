use Rattle.rule_names.proofs.Names.{HasDuplicate, map, subst, table_names, table_tree}
use Rattle.std.proofs.Common.{Global, Vec}
use Rattle.std.proofs.lemmas.Option.{MatchOption-at_none}
use Rattle.nft_tree.specs.TreeViews.{tables_of}
use Rattle.rule_names.specs.declared.ruleset_names.ItemNames.{ItemNames}
use Rattle.rule_names.specs.Names.{DuplicateName, two_tables}
use Rattle.rule_names.specs.steps.Table.{AreIndexed}
use Rattle.rule_names.proofs.Tables.{is-not-true, none-duplicate}
use Rattle.nft_tree.specs.declared.ruleset.Family.TheVariants as families
use Rattle.rule_names.proofs.ruleset_names.RulesetNames.of.Goals as goal

pub returns-then-branch-clause-names : goal.returns-then-branch-clause-names
returns-then-branch-clause-names c =
    two_tables families.Ip (subst (λ ts. HasDuplicate (table_names families.Ip (map table_tree ts)))
    c.deref.ensures.value (c.in_ok-has_duplicate_table.ensures.0 c.if-branch.true))

pub returns-then-branch-2-clause-names : goal.returns-then-branch-2-clause-names
returns-then-branch-2-clause-names c =
    two_tables families.Inet (subst (λ ts. HasDuplicate (table_names families.Inet (map table_tree ts)))
    c.deref-2.ensures.value (c.in_ok-has_duplicate_table-2.ensures.0 c.if-branch-2.true))

pub returns-in_default-clause-names : goal.returns-in_default-clause-names
returns-in_default-clause-names c =
    let tables = tables_of c.args.tree.now in
    MatchOption-at_none (DuplicateName tables) (λ (names : Vec ItemNames Global). AreIndexed tables names.items) c.in_default.is
    (rw c.deref-3.ensures.value at c.in_ok-tables.ensures)

pub returns-clause-apart : goal.returns-clause-apart
returns-clause-apart c =
    let tables = tables_of c.args.tree.now in
    let ip = subst (λ ts. HasDuplicate (table_names families.Ip (map table_tree ts)) → ⊥) c.deref.ensures.value
    (λ r. is-not-true c.in_ok-has_duplicate_table.field-0 c.if-branch.false (c.in_ok-has_duplicate_table.ensures.1 r)) in
    let inet = subst (λ ts. HasDuplicate (table_names families.Inet (map table_tree ts)) → ⊥) c.deref-2.ensures.value
    (λ r. is-not-true c.in_ok-has_duplicate_table-2.field-0 c.if-branch-2.false
    (c.in_ok-has_duplicate_table-2.ensures.1 r)) in
    let indexed : AreIndexed tables c.in-Some.tables.items = rw (c.in-Some.is, c.deref-3.ensures.value) at c.in_ok-tables.ensures in
    none-duplicate tables ip inet indexed.1
