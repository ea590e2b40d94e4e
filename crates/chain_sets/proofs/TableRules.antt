-- The rules of a chain, and what is wrong with none of them.
use Rattle.std.proofs.Common.{◌≡◌, ◌<◌, ◌≤◌, ℕ, zero, suc, List, [], ◌∷◌, length, map, get_or, slice_get, Option, Some, None, unwrap_or, Bool}
use Rattle.std.proofs.Common.{false, refl, ap, arith}
use Rattle.std.proofs.lemmas.Bool.{or_parts}
use Rattle.std.specs.List.{filter_map, list_any}
use Rattle.std.specs.Option.{option_map}
use Rattle.box_file.specs.Box.{PlantTree}
use Rattle.nft_tree.specs.Tree as tree
use Rattle.nft_tree.specs.Tree.{ChainTree, ItemTree, RuleTree, Statement, TableTree}
use Rattle.nft_tree.specs.TableItems.{chain_in, chains_of}
use Rattle.rule_types.specs.Types.{item_mismatches, rule_mismatches, table_mismatches}
use Rattle.rule_values.specs.Faults.{item_out_of_range, statement_out_of_range}
use Rattle.rule_meaning.specs.Runs.{table_program}
use Rattle.chain_sets.specs.steps.Rules.{rules_in}
use Rattle.chain_sets.specs.steps.Walking.{statements_in}

pub beyond : {A : Type 0} (xs : List A) (i : ℕ) → length xs ≤ i → slice_get xs i ≡ None
beyond [] i past = refl
beyond (x ∷ xs) zero past = absurd (omega (arith, past))
beyond (x ∷ xs) (suc i) past = beyond xs i (omega (arith, past))

-- what is wrong with no item is wrong with no rule of a chain
rules-free : (p : ItemTree → Bool) (q : RuleTree → Bool) → ((c : ChainTree) → p (tree.chain c) ≡ false → list_any q c.rules ≡ false)
    → (items : List ItemTree) (i : ℕ) → list_any p items ≡ false
    → list_any q (unwrap_or (option_map (λ chain. chain.rules) (slice_get (filter_map chain_in items) i)) []) ≡ false
rules-free p q h [] i none = refl
rules-free p q h (tree.chain x ∷ items) zero none = h x (or_parts _ _ none).0
rules-free p q h (tree.chain x ∷ items) (suc i) none = rules-free p q h items i (or_parts (p (tree.chain x)) (list_any p items) none).1
rules-free p q h (item ∷ items) i none = rules-free p q h items i (or_parts (p item) (list_any p items) none).1

pub types-free : (t : TableTree) (c : ℕ) → table_mismatches t ≡ false → list_any (rule_mismatches t) (rules_in t c) ≡ false
types-free t c none = rules-free (item_mismatches t) (rule_mismatches t) (λ x h. h) t.items c none

abbrev pub rule_out_of_range : RuleTree → Bool
rule_out_of_range r = list_any statement_out_of_range r.statements

pub bounds-free : (t : TableTree) (c : ℕ) → list_any item_out_of_range t.items ≡ false → list_any rule_out_of_range (rules_in t c) ≡ false
bounds-free t c none = rules-free item_out_of_range rule_out_of_range (λ x h. (or_parts _ _ h).1) t.items c none

-- what is so of no rule isn't so of one
pub none-at : {A : Type 0} (p : RuleTree → Bool) (h : A → RuleTree) (xs : List A) (i : ℕ) (d : A) → i < length xs
    → list_any p (map h xs) ≡ false → p (h (get_or xs i d)) ≡ false
none-at p h [] i d inside none = absurd (omega (arith, inside))
none-at p h (x ∷ xs) zero d inside none = (or_parts (p (h x)) (list_any p (map h xs)) none).0
none-at p h (x ∷ xs) (suc i) d inside none = none-at p h xs i d (omega (arith, inside)) (or_parts (p (h x)) (list_any p (map h xs)) none).1

-- the statements of the rule at an index
pub statements-at : {A : Type 0} (h : A → RuleTree) (xs : List A) (i : ℕ) (d : A) (e : List Statement) → i < length xs
    → get_or (statements_in (map h xs)) i e ≡ (h (get_or xs i d)).statements
statements-at h [] i d e inside = absurd (omega (arith, inside))
statements-at h (x ∷ xs) zero d e inside = refl
statements-at h (x ∷ xs) (suc i) d e inside = statements-at h xs i d e (omega (arith, inside))

pub statements-long : {A : Type 0} (h : A → RuleTree) (xs : List A) → length (statements_in (map h xs)) ≡ length xs
statements-long h [] = refl
statements-long h (x ∷ xs) = ap suc (statements-long h xs)

-- as a program has them
pub program-rules : (network : PlantTree) (number : ℕ) (t : TableTree) (c : ℕ)
    → statements_in (rules_in t c) ≡ unwrap_or ((table_program network number t).rules_at c) []
program-rules network number t c = by (slice_get (chains_of t) c)
  where
    by : (o : Option ChainTree) → statements_in (unwrap_or (option_map (λ chain. chain.rules) o) [])
        ≡ unwrap_or (option_map (λ chain. map (λ r. r.statements) chain.rules) o) []
    by None = refl
    by (Some x) = refl
