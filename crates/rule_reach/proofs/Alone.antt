-- The packets that would meet a rule taken by itself.
use Rattle.std.proofs.Common.{◌||◌, cond, true, ◌≡◌, ◌∙◌, ◌≤◌, ℕ, zero, suc, Bool, false, List, [], ◌∷◌, map, length, refl, ap, sym, subst, Option, Some, None}
use Rattle.std.proofs.Common.{slice_get, unwrap_or}
use Rattle.std.specs.List.{AllZip, list_any}
use Rattle.std.specs.Option.{option_map}
use Rattle.std.proofs.lemmas.Bool.{or_parts}
use Rattle.std.proofs.lemmas.List.{get_or_past}
use Rattle.std.proofs.lemmas.Option.{get_or_from_slice_get}
use Rattle.nft_tree.specs.declared.ruleset.RuleNo.{RuleNo}
use Rattle.nft_tree.specs.declared.ruleset.Family.TheVariants.{Ip}
use Rattle.nft_tree.specs.Tree.{ChainTree, RuleTree, Statement, TableTree}
use Rattle.nft_tree.specs.TableItems.{chains_of}
use Rattle.box_file.specs.Box.{PlantTree}
use Rattle.packet_sets.specs.declared.packet_set.PacketSet.{PacketSet}
use Rattle.packet_sets.specs.Sets.{DiagramsView, Means}
use Rattle.rule_types.specs.Types.{statement_mismatches, table_mismatches}
use Rattle.rule_values.specs.Faults.{item_out_of_range, statement_out_of_range}
use Rattle.rule_meaning.specs.declared.facts.Facts.{Facts}
use Rattle.rule_meaning.specs.declared.facts.Interface.{Interface}
use Rattle.rule_meaning.specs.Runs.{table_program}
use Rattle.fact_sets.specs.Boxes.{NOTHING}
use Rattle.fact_sets.specs.Facts.{facts_of}
use Rattle.fact_sets.specs.declared.cases.Case.{Case}
use Rattle.fact_sets.specs.declared.readings.Reader.{Reader}
use Rattle.fact_sets.specs.Cases.{seen}
use Rattle.lowering.specs.Lowered.{HasDeclared}
use Rattle.rule_code.specs.declared.code.Lookups.{Lookups}
use Rattle.rule_sets.specs.declared.ends.End.{End}
use Rattle.rule_sets.specs.Ends.{AddsEnds, RuleEnd, end_for, outcomes_for, rule_end}
use Rattle.rule_sets.specs.Interfaces.{interfaces_of}
use Rattle.chain_sets.specs.steps.Rules.{rules_in}
use Rattle.chain_sets.specs.steps.Walking.{statements_in}
use Rattle.chain_sets.proofs.TableRules.{bounds-free, types-free}
use Rattle.chain_ways.specs.BaseWays.{table_at}
use Rattle.rule_reach.specs.Takers.{meets_statements, numbered}
use Rattle.std.proofs.Math.ListN.{set}
use Rattle.rule_reach.proofs.Bases.{zipped}
use Rattle.rule_reach.specs.steps.Alone.{MeansAlone, statements_at}

-- ---- what is wrong with no rule of a table

free_at : (q : Statement → Bool) (rules : List RuleTree) (n : ℕ) (ss : List Statement) → list_any (λ r. list_any q r.statements) rules ≡ false
    → numbered (statements_in rules) n ≡ Some ss → list_any q ss ≡ false
free_at q rules zero ss none is = cc
free_at q [] (suc n) ss none is = cc
free_at q (r ∷ rules) (suc zero) ss none is =
    let e : r.statements ≡ ss = cc in
    ap (list_any q) (sym e) ∙ (or_parts (list_any q r.statements) _ none).0
free_at q (r ∷ rules) (suc (suc n)) ss none is =
    free_at q rules (suc n) ss (or_parts (list_any q r.statements) (list_any (λ r. list_any q r.statements) rules) none).1 is

in_rules : (t : TableTree) (r : RuleNo) (ss : List Statement) → statements_at t r ≡ Some ss
    → numbered (statements_in (rules_in t r.chain)) r.rule ≡ Some ss
in_rules t r ss is = by (slice_get (chains_of t) r.chain) is
  where
    by : (o : Option ChainTree)
        → numbered (unwrap_or (option_map (λ chain. map (λ r. r.statements) chain.rules) o) []) r.rule ≡ Some ss
        → numbered (statements_in (unwrap_or (option_map (λ chain. chain.rules) o) [])) r.rule ≡ Some ss
    by None is = is
    by (Some x) is = is

pub types_fine : (t : TableTree) (r : RuleNo) (ss : List Statement) → table_mismatches t ≡ false → statements_at t r ≡ Some ss
    → list_any (statement_mismatches t) ss ≡ false
types_fine t r ss none is =
    free_at (statement_mismatches t) (rules_in t r.chain) r.rule ss (types-free t r.chain none) (in_rules t r ss is)

pub bounds_fine : (t : TableTree) (r : RuleNo) (ss : List Statement) → list_any item_out_of_range t.items ≡ false → statements_at t r ≡ Some ss
    → list_any statement_out_of_range ss ≡ false
bounds_fine t r ss none is =
    free_at statement_out_of_range (rules_in t r.chain) r.rule ss (bounds-free t r.chain none) (in_rules t r ss is)

-- ---- the set

none_numbered : (n : ℕ) → numbered [] n ≡ None
none_numbered zero = refl
none_numbered (suc n) = refl

module _ (network : PlantTree) (tables : List TableTree) (d : DiagramsView) (r : RuleNo) (set : PacketSet) where
  by_statements : (t : TableTree) (found : Option (List Statement)) → slice_get tables r.table ≡ Some t → statements_at t r ≡ found
      → Means d set (λ p. meets_statements (table_program network r.table t) r found (facts_of (interfaces_of network) NOTHING p)) → MeansAlone network tables d r set
  by_statements t found at is means =
      let table : t ≡ table_at tables r.table = sym (get_or_from_slice_get tables r.table t _ at) in
      let here = subst (λ o. Means d set (λ p. meets_statements (table_program network r.table t) r o (facts_of (interfaces_of network) NOTHING p))) (sym is) means in
      subst (λ u. Means d set (λ p. meets_statements (table_program network r.table u) r (statements_at u r) (facts_of (interfaces_of network) NOTHING p)))
      table here

  pub alone_here : (t : TableTree) (ss : List Statement) (interfaces : List Interface) → interfaces ≡ interfaces_of network → slice_get tables r.table ≡ Some t
      → statements_at t r ≡ Some ss
      → Means d set (λ p. (rule_end (table_program network r.table t) r.chain r.rule 1 ss (facts_of interfaces NOTHING p)).met)
      → MeansAlone network tables d r set
  alone_here t ss interfaces same at is means = by_statements t (Some ss) at is
      (subst (λ i. Means d set (λ p. (rule_end (table_program network r.table t) r.chain r.rule 1 ss (facts_of i NOTHING p)).met)) same means)

  pub no_rule : (t : TableTree) → slice_get tables r.table ≡ Some t → statements_at t r ≡ None → Means d set (λ p. false) → MeansAlone network tables d r set
  no_rule t at is means = by_statements t None at is means

  pub no_table : length tables ≤ r.table → Means d set (λ p. false) → MeansAlone network tables d r set
  no_table past means =
      let none : table_at tables r.table ≡ record { family = Ip; name = []; items = [] } = get_or_past tables r.table _ past in
      subst (λ u. Means d set (λ p. meets_statements (table_program network r.table u) r (statements_at u r) (facts_of (interfaces_of network) NOTHING p)))
      (sym none)
      (subst (λ o. Means d set (λ p. meets_statements (table_program network r.table (record { family = Ip; name = []; items = [] })) r o
      (facts_of (interfaces_of network) NOTHING p))) (sym (none_numbered r.rule)) means)

-- ---- by the ends of the rule

or-false : (x : Bool) → (x || false) ≡ x
or-false true = refl
or-false false = refl

any_met : (reader : Reader) (p : ℕ → Bool) (es : List End) → list_any (λ e. e.met) es ≡ list_any (λ (x : RuleEnd). x.met) (map (end_for reader p) es)
any_met reader p [] = refl
any_met reader p (e ∷ es) = ap (λ x. e.met || x) (any_met reader p es)

pub met_means : (a b d : DiagramsView) (reader : Reader) (all set : PacketSet) (end : Facts → RuleEnd) (ends : List (Case End))
    → Means a all (λ p. true) → AddsEnds a b reader all end [] ends → Means d set (λ p. list_any (λ e. e.met) (outcomes_for b ends p))
    → Means d set (λ p. (end (seen reader p)).met)
met_means a b d reader all set end ends every adds is = record {
  is_set = is.is_set;
  same = λ p.
      is.same p ∙ any_met reader p (outcomes_for b ends p) ∙ ap (list_any (λ (x : RuleEnd). x.met)) (adds.same p)
      ∙ ap (λ v. list_any (λ (x : RuleEnd). x.met) (cond v (end (seen reader p) ∷ []) [])) (every.same p)
      ∙ or-false ((end (seen reader p)).met);
}

-- ---- the statements

pub found_at : (t : TableTree) (r : RuleNo) (c : ChainTree) (index : ℕ) (ss : List Statement) → slice_get (chains_of t) r.chain ≡ Some c
    → r.rule ≡ suc index → slice_get (statements_in c.rules) index ≡ Some ss → statements_at t r ≡ Some ss
found_at t r c index ss at is found =
    ap (λ o. numbered (unwrap_or (option_map (λ chain. map (λ r. r.statements) chain.rules) o) []) r.rule) at
    ∙ ap (numbered (statements_in c.rules)) is ∙ found

-- ---- the declared sets and maps of tables

same_some : {A : Type 0} (x y : A) → Some x ≡ Some y → x ≡ y
same_some x y e = cc

pub declared_at : (network : PlantTree) (tables : List TableTree) (lookups : List Lookups) (i : ℕ) (t : TableTree) (l : Lookups)
    → AllZip (HasDeclared network) tables lookups → slice_get tables i ≡ Some t → slice_get lookups i ≡ Some l → HasDeclared network t l
declared_at network tables lookups i t l all at there =
    let z = zipped (HasDeclared network) tables lookups i l all there in
    subst (λ u. HasDeclared network u l) (same_some z.0 t (sym z.1 ∙ at)) z.2

pub zip_set : {A B : Type 0} (R : A → B → Type 0) (xs : List A) (ys : List B) (i : ℕ) (x : A) (y : B) → AllZip R xs ys → slice_get xs i ≡ Some x
    → R x y → AllZip R xs (set ys i y)
zip_set R [] [] i x y all at new = cc
zip_set R [] (w ∷ ys) i x y all at new = absurd all
zip_set R (z ∷ xs) [] i x y all at new = absurd all
zip_set R (z ∷ xs) (w ∷ ys) zero x y all at new = (subst (λ u. R u y) (sym (same_some z x at)) new, all.1)
zip_set R (z ∷ xs) (w ∷ ys) (suc i) x y all at new = (all.0, zip_set R xs ys i x y all.1 at new)
