-- The sets of some base chains of a list of them, and the rules and base chains that are left.
use Rattle.std.proofs.Common.{◌≡◌, ◌∙◌, ℕ, ◌+◌, List, [], ◌∷◌, ◌++◌, drop, take, slice_get, Some, filter, map, refl, ap, subst, append-nil, append_assoc}
use Rattle.std.proofs.Common.{add-one, sym, suc}
use Rattle.std.proofs.Common.{arith, zero, Bool, false}
use Rattle.std.specs.List.{AllZip, list_any}
use Rattle.std.proofs.lemmas.Bool.{false_from_ne_true, or_parts}
use Rattle.std.proofs.lemmas.List.{drop_more, take_more}
use Rattle.std.proofs.lemmas.List.Elements.{All-map, All-nil, All-same, filter-append}
use Rattle.std.proofs.lemmas.Option.{get_or_from_slice_get, slice_get_within}
use Rattle.nft_tree.specs.declared.ruleset.RuleNo.{RuleNo}
use Rattle.nft_tree.specs.Tree.{ChainTree, TableTree}
use Rattle.nft_tree.specs.TableItems.{chains_of}
use Rattle.box_file.specs.Box.{PlantTree}
use Rattle.packet_sets.specs.Sets.{DiagramsView}
use Rattle.rule_types.specs.Types.{table_mismatches}
use Rattle.rule_values.specs.Faults.{has_wrong_value, item_out_of_range}
use Rattle.rule_check.specs.declared.fault.CheckFault.TheVariants as faults
use Rattle.rule_check.specs.WellFormed.{WellFormed}
use Rattle.rule_meaning.specs.Hooks.{BaseChain, base_chain_of, base_chains_from, base_chains_of_tables}
use Rattle.rule_reach.specs.declared.answers.Reach.{Reach}
use Rattle.rule_reach.specs.declared.answers.RuleReach.{RuleReach}
use Rattle.rule_reach.specs.declared.sets.BaseSets.{BaseSets}
use Rattle.rule_reach.specs.Sets.{AreSetsOf}
use Rattle.coming_sets.specs.Bases.{runs}
use Rattle.rule_reach.specs.Reach.{IsAnswer, IsPolicyReach, rules_of}
use Rattle.rule_reach.specs.steps.Rules.{IsReach, unreached}

-- the first of those that are left at a place of a list
pub rest_from : {A : Type 0} (xs : List A) (i : ℕ) (x : A) → slice_get xs i ≡ Some x → drop i xs ≡ x ∷ drop (i + 1) xs
rest_from xs i x is = drop_more xs i x (slice_get_within xs i x is) ∙ ap (λ y. y ∷ drop (i + 1) xs) (get_or_from_slice_get xs i x x is)

-- there are sets of all of them but those that are left
pub record Done (network : PlantTree) (tables : List TableTree) (d : DiagramsView) (before all left : List BaseChain) (sets : List BaseSets) : Type 0 where
  pub done : List BaseChain
  pub is : done ++ left ≡ all
  pub made : AreSetsOf network tables d (before ++ done) sets

pub done_none : (network : PlantTree) (tables : List TableTree) (d : DiagramsView) (before all : List BaseChain) (sets : List BaseSets)
    → AreSetsOf network tables d before sets → Done network tables d before all all sets
done_none network tables d before all sets is = record {
  done = [];
  is = refl;
  made = subst (λ l. AreSetsOf network tables d l sets) (sym (append-nil before)) is;
}

pub done_more : (network : PlantTree) (tables : List TableTree) (d e : DiagramsView) (before all left more next : List BaseChain)
    (sets new : List BaseSets) → left ≡ more ++ next
    → ((so_far : List BaseChain) → AreSetsOf network tables d so_far sets → AreSetsOf network tables e (so_far ++ more) new)
    → Done network tables d before all left sets → Done network tables e before all next new
done_more network tables d e before all left more next sets new is step had = record {
  done = had.done ++ more;
  is = append_assoc had.done more next ∙ ap (λ l. had.done ++ l) (sym is) ∙ had.is;
  made = subst (λ l. AreSetsOf network tables e l new) (append_assoc before had.done more) (step (before ++ had.done) had.made);
}

pub done_all : (network : PlantTree) (tables : List TableTree) (d : DiagramsView) (before all left : List BaseChain) (sets : List BaseSets) → left ≡ []
    → Done network tables d before all left sets → AreSetsOf network tables d (before ++ all) sets
done_all network tables d before all left sets none had =
    let e = sym (append-nil had.done) ∙ ap (λ l. had.done ++ l) (sym none) ∙ had.is in
    subst (λ l. AreSetsOf network tables d (before ++ l) sets) e had.made

-- ---- no base chain yet

rules-shown : (rs : List RuleNo) → map (λ r. r.rule) (map unreached rs) ≡ rs
rules-shown [] = refl
rules-shown (r ∷ rs) = ap (λ xs. r ∷ xs) (rules-shown rs)

pub reach_none : (network : PlantTree) (tables : List TableTree) (reach : Reach) → reach.rules.items ≡ map unreached (rules_of tables)
    → reach.policies.items ≡ [] → IsReach network tables [] reach
reach_none network tables reach all none =
    let P = λ (r : RuleReach). IsAnswer network tables [] r.rule r.answer in
    record {
      rules = ap (map (λ r. r.rule)) all ∙ rules-shown (rules_of tables);
      answers = All-same P reach.rules.items (map unreached (rules_of tables)) all (All-map P unreached (rules_of tables) (λ k r inside base f among comes.
          let lt = among.1 in absurd (omega arith)));
      policies = ap (map (λ p. p.chain)) none;
      applies = All-same (IsPolicyReach network tables []) reach.policies.items [] none (All-nil (IsPolicyReach network tables []));
    }

-- what no table has
pub none_at : {A : Type 0} (p : A → Bool) (xs : List A) (i : ℕ) (x : A) → list_any p xs ≡ false → slice_get xs i ≡ Some x → p x ≡ false
none_at p [] i x none is = cc
none_at p (y ∷ ys) zero x none is = let e : y ≡ x = cc in ap p (sym e) ∙ (or_parts (p y) (list_any p ys) none).0
none_at p (y ∷ ys) (suc i) x none is = none_at p ys i x (or_parts (p y) (list_any p ys) none).1 is

-- what a table of a well-formed ruleset hasn't
pub types_at : (network : PlantTree) (tables : List TableTree) (i : ℕ) (t : TableTree) → WellFormed tables network → slice_get tables i ≡ Some t
    → table_mismatches t ≡ false
types_at network tables i t fine at = none_at table_mismatches tables i t (false_from_ne_true _ (fine faults.TypeMismatch)) at

pub bounds_at : (network : PlantTree) (tables : List TableTree) (i : ℕ) (t : TableTree) → WellFormed tables network → slice_get tables i ≡ Some t
    → list_any item_out_of_range t.items ≡ false
bounds_at network tables i t fine at =
    (or_parts _ _ (none_at (has_wrong_value network) tables i t (false_from_ne_true _ (fine faults.WrongValue)) at)).1

-- what goes with the one at a place
pub zipped : {A B : Type 0} (R : A → B → Type 0) (xs : List A) (ys : List B) (i : ℕ) (y : B) → AllZip R xs ys → slice_get ys i ≡ Some y
    → (x : A) × (slice_get xs i ≡ Some x) × R x y
zipped R [] [] i y all is = cc
zipped R [] (z ∷ ys) i y all is = absurd all
zipped R (x ∷ xs) [] i y all is = absurd all
zipped R (x ∷ xs) (z ∷ ys) zero y all is = let e : z ≡ y = cc in (x, refl, subst (R x) e all.0)
zipped R (x ∷ xs) (z ∷ ys) (suc i) y all is = zipped R xs ys i y all.1 is

pub taken_next : {A : Type 0} (xs : List A) (i : ℕ) (x : A) → slice_get xs i ≡ Some x → take (i + 1) xs ≡ take i xs ++ x ∷ []
taken_next xs i x is =
    take_more xs i x (slice_get_within xs i x is) ∙ ap (λ y. take i xs ++ y ∷ []) (get_or_from_slice_get xs i x x is)

-- ---- base chains that are left

pub chains_left : (table i : ℕ) (cs : List ChainTree) (c : ChainTree) → slice_get cs i ≡ Some c
    → filter runs (base_chains_from table i (drop i cs))
    ≡ filter runs (base_chain_of table i c.head) ++ filter runs (base_chains_from table (i + 1) (drop (i + 1) cs))
chains_left table i cs c is = rw (rest_from cs i c is, add-one)
    (filter-append runs (base_chain_of table i c.head) (base_chains_from table (suc i) (drop (suc i) cs)))

pub tables_left : (i : ℕ) (ts : List TableTree) (t : TableTree) → slice_get ts i ≡ Some t
    → filter runs (base_chains_of_tables i (drop i ts))
    ≡ filter runs (base_chains_from i 0 (chains_of t)) ++ filter runs (base_chains_of_tables (i + 1) (drop (i + 1) ts))
tables_left i ts t is = rw (rest_from ts i t is, add-one)
    (filter-append runs (base_chains_from i 0 (chains_of t)) (base_chains_of_tables (suc i) (drop (suc i) ts)))
