-- Properties of all elements of a list.
use Rattle.std.proofs.Common.{◌≡◌, ℕ, zero, suc, ◌<◌, Bool, true, false, cond, List, [], ◌∷◌, ◌++◌, length}
use Rattle.std.proofs.Common.{slice_index_or, slice_get, find, filter, Contains, Some, unwrap_or, ap, subst, arith}

module _ {A : Type 0} (P : A → Type 0) where
  abbrev pub Every : List A → Type 0
  Every [] = Unit {0}
  Every (x ∷ xs) = P x × Every xs

  same_some : (x y : A) → Some x ≡ Some y → x ≡ y
  same_some x y e = ap (λ o. unwrap_or o x) e

  pub every_got : (xs : List A) (i : ℕ) (x : A) → slice_get xs i ≡ Some x → Every xs → P x
  every_got [] i x e all = absurd cc
  every_got (y ∷ ys) zero x e all = subst P (same_some y x e) all.0
  every_got (y ∷ ys) (suc i) x e all = every_got ys i x e all.1

  pub every_found : (test : A → Bool) (xs : List A) (x : A) → find test xs ≡ Some x → Every xs → P x
  every_found test [] x e all = absurd cc
  every_found test (y ∷ ys) x e all = by_test (test y) e (λ later. every_found test ys x later all.1)
    where
      by_test : (b : Bool) → cond b (Some y) (find test ys) ≡ Some x → (find test ys ≡ Some x → P x) → P x
      by_test true here later = subst P (same_some y x here) all.0
      by_test false there later = later there

  pub every_contained : (xs : List A) (x : A) → Contains xs x → Every xs → P x
  every_contained xs x has all = at xs has.0 has.1 has.2 all
    where
      at : (l : List A) (k : ℕ) → k < length l → slice_index_or l k x ≡ x → Every l → P x
      at [] k within is h = absurd (omega (arith, within))
      at (y ∷ ys) zero within is h = subst P is h.0
      at (y ∷ ys) (suc k) within is h = at ys k (omega arith) is h.1

  pub every_append : (xs ys : List A) → Every xs → Every ys → Every (xs ++ ys)
  every_append [] ys a b = b
  every_append (x ∷ xs) ys a b = (a.0, every_append xs ys a.1 b)

  every_if : (b : Bool) (x : A) (xs : List A) → P x → Every xs → Every (cond b (x ∷ xs) xs)
  every_if true x xs a h = (a, h)
  every_if false x xs a h = h

  pub every_filter : (test : A → Bool) (xs : List A) → Every xs → Every (filter test xs)
  every_filter test [] h = tt
  every_filter test (x ∷ xs) h = every_if (test x) x (filter test xs) h.0 (every_filter test xs h.1)
