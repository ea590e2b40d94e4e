-- Concatenated values, part by part.
use Rattle.std.proofs.Common.{◌≡◌, ℕ, zero, suc, ◌+◌, ◌<◌, ◌≤◌, Bool, true, false, ◌||◌, List, [], ◌∷◌, Some, None}
use Rattle.std.proofs.Common.{length, get_or, map, drop, refl, sym, ap, ap₂, ◌∙◌, arith, slice_get}
use Rattle.std.specs.List.{list_any}
use Rattle.std.proofs.lemmas.List.{drop_all}
use Rattle.nft_tree.specs.declared.compared_types.ComparedType.{ComparedType}
use Rattle.nft_tree.specs.declared.values.Value.{Value}
use Rattle.nft_tree.specs.TreeViews.{value_tree}
use Rattle.rule_values.specs.TypedValues.{TypedRange, typed_value, joined_ranges}

-- the ranges of the parts from a part on
abbrev pub joined_from : List ComparedType → List Value → ℕ → List TypedRange
joined_from ks vs i = joined_ranges (drop i ks) (map value_tree (drop i vs))

joined-suc : (ks : List ComparedType) (vs : List Value) (i : ℕ) (k : ComparedType) (v : Value) → slice_get ks i
    ≡ Some k → i < length vs → v ≡ get_or vs i v → joined_from ks vs i
    ≡ typed_value k (value_tree v) ∷ joined_from ks vs (suc i)
joined-suc [] vs i k v at lt is = cc
joined-suc (x ∷ ks) [] i k v at lt is = absurd (omega (arith, lt))
joined-suc (x ∷ ks) (w ∷ vs) zero k v at lt is =
    let e : x ≡ k = cc in
    ap₂ (λ (a : ComparedType) (b : Value). typed_value a (value_tree b) ∷ joined_ranges ks (map value_tree vs)) e (sym is)
joined-suc (x ∷ ks) (w ∷ vs) (suc i) k v at lt is = joined-suc ks vs i k v at (omega (arith, lt)) is

joined-step : (ks : List ComparedType) (vs : List Value) (i : ℕ) (k : ComparedType) (v : Value) → slice_get ks i
    ≡ Some k → i < length vs → v ≡ get_or vs i v → joined_from ks vs i
    ≡ typed_value k (value_tree v) ∷ joined_from ks vs (i + 1)
joined-step ks vs i k v at lt is =
    let e : suc i ≡ i + 1 = omega arith in
    joined-suc ks vs i k v at lt is ∙ ap (λ n. typed_value k (value_tree v) ∷ joined_from ks vs n) e

joined-none : (ks : List ComparedType) → joined_ranges ks [] ≡ []
joined-none [] = refl
joined-none (k ∷ ks) = refl

joined-no_kind : (ks : List ComparedType) (vs : List Value) (i : ℕ) → slice_get ks i ≡ None → joined_from ks vs i ≡ []
joined-no_kind [] vs zero at = refl
joined-no_kind [] vs (suc i) at = refl
joined-no_kind (x ∷ ks) vs zero at = cc
joined-no_kind (x ∷ ks) [] (suc i) at = joined-none (drop i ks)
joined-no_kind (x ∷ ks) (v ∷ vs) (suc i) at = joined-no_kind ks vs i at

-- ---- a test of the parts from i on

module _ (test : TypedRange → Bool) (answer : Bool) (ks : List ComparedType) (vs : List Value) (i : ℕ)
    (known : answer ≡ list_any test (joined_from ks vs i)) where
  -- past the last kind
  pub stops : None ≡ slice_get ks i → false ≡ answer
  stops none = sym (known ∙ ap (list_any test) (joined-no_kind ks vs i (sym none)))

  -- past the last value
  pub ends : length vs ≤ i → false ≡ answer
  ends past = sym (known ∙ ap (λ ws. list_any test (joined_ranges (drop i ks) (map value_tree ws)))
      (drop_all i vs past) ∙ ap (list_any test) (joined-none (drop i ks)))

  at-part : (k : ComparedType) (v : Value) (b : Bool) → Some k ≡ slice_get ks i → i < length vs → v ≡ get_or vs i v
      → b ≡ test (typed_value k (value_tree v)) → answer ≡ b || list_any test (joined_from ks vs (i + 1))
  at-part k v b at lt is tells = known ∙ ap (list_any test) (joined-step ks vs i k v (sym at) lt is)
      ∙ ap (λ c. c || list_any test (joined_from ks vs (i + 1))) (sym tells)

  pub passes : (k : ComparedType) (v : Value) → Some k ≡ slice_get ks i → i < length vs → v ≡ get_or vs i v → true
      ≡ test (typed_value k (value_tree v)) → true ≡ answer
  passes k v at lt is tells = sym (at-part k v true at lt is tells)

  pub goes_on : (k : ComparedType) (v : Value) → Some k ≡ slice_get ks i → i < length vs → v ≡ get_or vs i v → false
      ≡ test (typed_value k (value_tree v)) → answer ≡ list_any test (joined_from ks vs (i + 1))
  goes_on k v at lt is tells = at-part k v false at lt is tells
