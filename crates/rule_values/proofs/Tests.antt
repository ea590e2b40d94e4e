-- Tests that some element passes.
use Rattle.std.proofs.Common.{◌≡◌, ℕ, ◌+◌, ◌<◌, ◌≤◌, Bool, true, false, ◌||◌, List, [], ◌∷◌, length, get_or, take, map, refl, sym, ap, ap₂, subst, ◌∙◌, Result}
use Rattle.std.specs.Prelude.{IfOk}
use Rattle.std.specs.declared.alloc.AllocError.{AllocError}
use Rattle.std.specs.List.{list_any, flat_map}
use Rattle.std.proofs.lemmas.List.{take_all}
use Rattle.std.proofs.lemmas.List.Folds.{list_any-append, list_any_at, list_any_more}
use Rattle.list_laws.specs.Lists.{any_of_map}

-- `any` of `flat_map`
pub any_flat : {X Y : Type 0} (p : Y → Bool) (g : X → List Y) (xs : List X) → list_any (λ x. list_any p (g x)) xs ≡ list_any p (flat_map g xs)
any_flat p g [] = refl
any_flat p g (x ∷ xs) = ap (λ v. list_any p (g x) || v) (any_flat p g xs) ∙ sym (list_any-append p (g x) (flat_map g xs))

-- no part of the first i elements passes
abbrev pub NoneBefore : {S X Y : Type 0} → (Y → Bool) → (X → List Y) → (S → X) → List S → ℕ → Type 0
NoneBefore p g view xs i = list_any (λ x. list_any p (g (view x))) (take i xs) ≡ false

-- one element after another
module _ {S X Y : Type 0} (p : Y → Bool) (g : X → List Y) (view : S → X) (xs : List S) (i : ℕ) where
  abbrev here : S → Bool
  here x = list_any p (g (view x))

  viewed : list_any here xs ≡ list_any p (flat_map g (map view xs))
  viewed = any_of_map (λ t. list_any p (g t)) view xs ∙ any_flat p g (map view xs)

  pub none_here : NoneBefore p g view xs i → (x : S) → i < length xs → x ≡ get_or xs i x → false ≡ list_any p (g (view x))
      → NoneBefore p g view xs (i + 1)
  none_here before x inside is fails = list_any_more here xs i x inside ∙ ap₂ (λ a b. a || b) before (ap here (sym is) ∙ sym fails)

  pub some_here : (x : S) → i < length xs → x ≡ get_or xs i x → true ≡ list_any p (g (view x))
      → true ≡ list_any p (flat_map g (map view xs))
  some_here x inside is passes = sym (list_any_at here xs i x inside (ap here (sym is) ∙ sym passes)) ∙ viewed

  pub none_at_all : NoneBefore p g view xs i → length xs ≤ i → false ≡ list_any p (flat_map g (map view xs))
  none_at_all before past = sym before ∙ ap (list_any here) (take_all i xs past) ∙ viewed

-- an answer in other words
pub told : (r : Result Bool AllocError) {v w : Bool} → v ≡ w → IfOk r (λ b. b ≡ v) → IfOk r (λ b. b ≡ w)
told r e h = subst (λ (v : Bool). IfOk r (λ b. b ≡ v)) e h
