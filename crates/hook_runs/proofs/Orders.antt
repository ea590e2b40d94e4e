-- Base chains in order stay in order when some are left out.
use Rattle.std.proofs.Common.{◌≡◌, ℕ, zero, suc, ◌+◌, ◌≤◌, Bool, true, false, not, ◌&&◌, cond, List, [], ◌∷◌, ◌++◌}
use Rattle.std.proofs.Common.{length, inl, inr, filter, sum_by, refl, sym, ap, ap₂, ◌∙◌, subst, arith}
use Rattle.std.specs.Prelude.{Contains}
use Rattle.std.specs.List.Sorted.{ties}
use Rattle.std.proofs.lemmas.Bool.{false≢true}
use Rattle.std.proofs.lemmas.List.Sorted.{Contains-permutation, IsPermutation-filter_both}
use Rattle.std.proofs.lemmas.List.Filters.{length-filter_both, sum_by-filter_both}
use Rattle.std.proofs.lemmas.List.Elements.{All-contains, All-contains_itself, All-filter, Contains-append_cases, filter_passes}
use Rattle.rule_meaning.proofs.Priorities.{priorities}
use Rattle.compiler.proofs.OrderLaws.{some_in_order}
use Rattle.rule_meaning.specs.Hooks.{BaseChain, InOrder, runs_before}

-- an element that passes is kept
Contains-filter : {X : Type 0} (p : X → Bool) (xs : List X) (x : X) → Contains xs x → p x ≡ true → Contains (filter p xs) x
Contains-filter {X = X} p xs x h passes =
    let q : X → Bool = λ y. not (p y) in
    elim (Contains-append_cases (filter p xs) (filter q xs) x
    (Contains-permutation xs (filter p xs ++ filter q xs) x (IsPermutation-filter_both p q (λ y. refl) xs)
    h)) [
      | inl kept ↦ kept
      | inr left ↦ absurd (false≢true (ap not (sym passes)
          ∙ All-contains (λ y. q y ≡ true) (filter q xs) x (filter_passes q xs) left))
    ]

-- ---- order

neither : (b : Bool) → (b ≡ true → b ≡ false) → b ≡ false
neither true h = h refl
neither false h = refl

-- a base chain ties with itself
tied : (b : BaseChain) → ties runs_before b b ≡ true
tied b = let e : runs_before b b ≡ false = neither (runs_before b b) (priorities.one_way b b) in
    ap (λ t. not t && not t) e

-- what is in order is in the text
pub in_text : (text order : List BaseChain) → InOrder text order → (b : BaseChain) → Contains order b → Contains text b
in_text text order o b h =
    let same = ties runs_before b in
    let kept : Contains (filter same text) b = subst (λ (l : List BaseChain). Contains l b) (o.stable b)
    (Contains-filter same order b h (tied b)) in
    All-contains (Contains text) (filter same text) b
    (All-filter same (Contains text) text (All-contains_itself text)) kept

-- ---- sums

-- a base chain is among those that tie with it
kept_itself : (b : Bool) (x : BaseChain) (kept : List BaseChain) → b ≡ true → cond b (x ∷ kept) kept ≡ x ∷ kept
kept_itself true x kept is = refl
kept_itself false x kept is = absurd (false≢true is)

one_fewer : (kept left all more n : ℕ) → kept ≡ suc more → kept + left ≡ suc all → suc all ≤ suc n → left ≤ n
one_fewer kept left all more n one both short = omega arith

-- so that fewer are left
others_fewer : (n : ℕ) (x : BaseChain) (xs : List BaseChain) → length (x ∷ xs) ≤ suc n
    → length (filter (λ y. not (ties runs_before x y)) (x ∷ xs)) ≤ n
others_fewer n x xs short =
    let same = ties runs_before x in
    one_fewer (length (filter same (x ∷ xs))) (length (filter (λ y. not (same y)) (x ∷ xs))) (length xs)
    (length (filter same xs)) n (ap length (kept_itself (same x) x (filter same xs) (tied x)))
    (length-filter_both same (λ y. not (same y)) (λ y. refl) (x ∷ xs)) short

none_in : (b : BaseChain) → Contains [] b → ⊥
none_in b h = absurd (omega (arith, h.1))

module _ (number : BaseChain → ℕ) where
  sum_by_size : (n : ℕ) (text order : List BaseChain) → length text ≤ n → InOrder text order
      → sum_by number order ≡ sum_by number text
  sum_by_size n [] [] short o = refl
  sum_by_size n [] (b ∷ bs) short o = absurd (none_in b (in_text [] (b ∷ bs) o b (0, omega arith, refl)))
  sum_by_size zero (x ∷ xs) order short o = absurd (omega (arith, short))
  sum_by_size (suc n) (x ∷ xs) order short o =
      let same = ties runs_before x in
      let other : BaseChain → Bool = λ y. not (same y) in
      sym (sum_by-filter_both same other (λ y. refl) number order)
      ∙ ap₂ ◌+◌ (ap (sum_by number) (o.stable x)) (sum_by_size n (filter other (x ∷ xs)) (filter other order)
      (others_fewer n x xs short) (some_in_order other (x ∷ xs) order o))
      ∙ sum_by-filter_both same other (λ y. refl) number (x ∷ xs)

  -- what is in order has the text's sum
  pub sum_in_order : (text order : List BaseChain) → InOrder text order → sum_by number order ≡ sum_by number text
  sum_in_order text order = sum_by_size (length text) text order (omega arith)
