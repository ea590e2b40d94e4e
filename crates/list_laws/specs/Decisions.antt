-- Decidability: of membership, of a property of some element, of `<` and of equal texts.
use Rattle.std.proofs.Common.{◌≡◌, ◌⊎◌, ℕ, zero, suc, ◌<◌, ◌≤◌, Bool, true, false, nat_lt, List, [], ◌∷◌, length}
use Rattle.std.proofs.Common.{get_or, refl, sym, ◌∙◌, subst, inl, inr, arith, Contains, ltb-true, ltb-false, bytes_eq}
use Rattle.std.proofs.lemmas.Slice.Eq.{bytes_eq-Decides}
use Rattle.list_laws.specs.Lists.{Contains-head}

abbrev pub Decided : Type 0 → Type 0
Decided P = P ⊎ (P → ⊥)

pub Contains-none : {A : Type 0} (x : A) → Contains [] x → ⊥
Contains-none x at = absurd (omega (arith, at.1))

pub Contains-there : {A : Type 0} (y x : A) (xs : List A) → Contains xs x → Contains (y ∷ xs) x
Contains-there y x xs at = (suc at.0, omega (arith, at.1), at.2)

pub Contains-cases : {A : Type 0} (y x : A) (xs : List A) → Contains (y ∷ xs) x → (y ≡ x) ⊎ Contains xs x
Contains-cases y x xs at = by_index at.0 at.1 at.2
  where
    by_index : (k : ℕ) → k < suc (length xs) → get_or (y ∷ xs) k x ≡ x → (y ≡ x) ⊎ Contains xs x
    by_index zero within found = inl found
    by_index (suc k) within found = inr (k, omega arith, found)

module _ {A : Type 0} (P : A → Type 0) where
  some_cons : (x : A) (xs : List A) → Decided (P x) → Decided ((y : A) × Contains xs y × P y)
      → Decided ((y : A) × Contains (x ∷ xs) y × P y)
  some_cons x xs (inl p) later = inl (x, Contains-head x xs, p)
  some_cons x xs (inr no_p) (inl h) = inl (h.0, Contains-there x h.0 xs h.1, h.2)
  some_cons x xs (inr no_p) (inr none) =
      inr (λ h. elim (Contains-cases x h.0 xs h.1) [
        | inl e ↦ no_p (subst P (sym e) h.2)
        | inr at ↦ none (h.0, at, h.2)
      ])

  -- a property of some element is decidable where it is decidable of each
  pub some_decided : (xs : List A) → ((x : A) → Contains xs x → Decided (P x))
      → Decided ((x : A) × Contains xs x × P x)
  some_decided [] each = inr (λ h. Contains-none h.0 h.1)
  some_decided (x ∷ xs) each =
      some_cons x xs (each x (Contains-head x xs))
      (some_decided xs (λ y at. each y (Contains-there x y xs at)))

-- equivalent propositions are decidable together
pub decided_as : {P Q : Type 0} → (P → Q) → (Q → P) → Decided P → Decided Q
decided_as f g (inl p) = inl (f p)
decided_as f g (inr no_p) = inr (λ q. no_p (g q))

pub either_decided : {P Q : Type 0} → Decided P → Decided Q → Decided (P ⊎ Q)
either_decided (inl p) d = inl (inl p)
either_decided (inr no_p) (inl q) = inl (inr q)
either_decided (inr no_p) (inr no_q) = inr (λ h. elim h [ inl p ↦ no_p p | inr q ↦ no_q q ])

pub less_decided : (m n : ℕ) → Decided (m < n)
less_decided m n = by_test (nat_lt m n) refl
  where
    by_test : (b : Bool) → nat_lt m n ≡ b → Decided (m < n)
    by_test true e = inl (ltb-true _ _ e)
    by_test false e = inr (λ lt. let le : n ≤ m = ltb-false _ _ e in omega arith)

pub texts_decided : (a b : List ℕ) → Decided (a ≡ b)
texts_decided a b = by_test (bytes_eq a b) refl
  where
    by_test : (t : Bool) → bytes_eq a b ≡ t → Decided (a ≡ b)
    by_test true e = inl ((bytes_eq-Decides a b).0 e)
    by_test false e =
        inr (λ same.
        let yes_and_no : ◌≡◌ {A = Bool} true false = sym ((bytes_eq-Decides a b).1 same) ∙ e in
        absurd cc)
