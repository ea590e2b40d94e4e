-- Stable insertion sort: each element is inserted before those that aren't less.
use Rattle.std.proofs.Common.{◌≡◌, ℕ, zero, suc, ◌+◌, ◌<◌, Bool, true, false, cond, List, [], ◌∷◌, length, get_or, filter, refl, ap, ◌∙◌, arith}
use Rattle.std.specs.Cmp.{IsStrictWeakOrder}
use Rattle.std.specs.List.Sorted.{IsSortedBy, IsStableBy, ties}
use Rattle.rule_laws.proofs.Lists.{Every}

module _ {X : Type 0} (lt : X → X → Bool) where
  abbrev put : X → List X → List X
  put x [] = x ∷ []
  put x (y ∷ ys) = cond (lt y x) (y ∷ put x ys) (x ∷ y ∷ ys)

  abbrev pub ordered : List X → List X
  ordered [] = []
  ordered (x ∷ xs) = put x (ordered xs)

  -- ---- the same elements

  every_put : (P : X → Type 0) (x : X) (xs : List X) → P x → Every P xs → Every P (put x xs)
  every_put P x [] h all = (h, tt)
  every_put P x (y ∷ ys) h all = by_test (lt y x) (every_put P x ys h all.1)
    where
      by_test : (b : Bool) → Every P (put x ys) → Every P (cond b (y ∷ put x ys) (x ∷ y ∷ ys))
      by_test true later = (all.0, later)
      by_test false later = (h, all)

  pub every_ordered : (P : X → Type 0) (xs : List X) → Every P xs → Every P (ordered xs)
  every_ordered P [] all = tt
  every_ordered P (x ∷ xs) all = every_put P x (ordered xs) all.0 (every_ordered P xs all.1)

  -- ---- in order

  abbrev Before : X → List X → Type 0
  Before x [] = Unit {0}
  Before x (y ∷ ys) = lt y x ≡ false

  abbrev Up : List X → Type 0
  Up [] = Unit {0}
  Up (x ∷ xs) = Before x xs × Up xs

  up_sorted : (xs : List X) → Up xs → IsSortedBy lt xs
  up_sorted [] up k d low within = absurd (omega (arith, within))
  up_sorted (x ∷ xs) up k d low within = at xs k up within (up_sorted xs up.1)
    where
      at : (l : List X) (k : ℕ) → Up (x ∷ l) → k + 1 < length (x ∷ l) → IsSortedBy lt l → lt (get_or (x ∷ l) (k + 1) d) (get_or (x ∷ l) k d) ≡ false
      at [] k h w later = absurd (omega (arith, w))
      at (y ∷ ys) zero h w later = h.0
      at (y ∷ ys) (suc k) h w later =
          let on : suc k + 1 ≡ suc (k + 1) = omega arith in
          ap (λ n. lt (get_or (x ∷ y ∷ ys) n d) (get_or (y ∷ ys) k d)) on ∙ later k d (omega arith) (omega (arith, w))

  module _ (o : IsStrictWeakOrder lt) where
    before_put : (y x : X) (ys : List X) → Before y ys → lt y x ≡ true → Before y (put x ys)
    before_put y x [] h less = o.one_way y x less
    before_put y x (z ∷ zs) h less = grind arith

    up_put : (x : X) (xs : List X) → Up xs → Up (put x xs)
    up_put x [] up = (tt, tt)
    up_put x (y ∷ ys) up = by_test (lt y x) refl (up_put x ys up.1)
      where
        by_test : (b : Bool) → lt y x ≡ b → Up (put x ys) → Up (cond b (y ∷ put x ys) (x ∷ y ∷ ys))
        by_test true less later = (before_put y x ys up.0 less, later)
        by_test false less later = (less, up)

    up_ordered : (xs : List X) → Up (ordered xs)
    up_ordered [] = tt
    up_ordered (x ∷ xs) = up_put x (ordered xs) (up_ordered xs)

    pub sorted : (xs : List X) → IsSortedBy lt (ordered xs)
    sorted xs = up_sorted (ordered xs) (up_ordered xs)

    -- ---- stability

    -- what is less than an element doesn't tie with anything that the element ties with
    no_tie : (z x y : X) → ties lt z x ≡ true → lt y x ≡ true → ties lt z y ≡ false
    no_tie z x y tied less = grind arith

    swapped : (x y : X) (c t : Bool) (kept rest : List X) → (c ≡ true → t ≡ false) → kept ≡ cond c (x ∷ rest) rest
        → cond t (y ∷ kept) kept ≡ cond c (x ∷ cond t (y ∷ rest) rest) (cond t (y ∷ rest) rest)
    swapped x y false true kept rest apart e = ap (λ l. y ∷ l) e
    swapped x y false false kept rest apart e = e
    swapped x y true false kept rest apart e = e
    swapped x y true true kept rest apart e = let no : ◌≡◌ {A = Bool} true false = apart refl in absurd cc

    kept_put : (z x : X) (xs : List X) → filter (ties lt z) (put x xs) ≡ filter (ties lt z) (x ∷ xs)
    kept_put z x [] = refl
    kept_put z x (y ∷ ys) = grind (arith, swapped, no_tie, (kept_put z x ys))

    pub stable : (xs : List X) → IsStableBy lt xs (ordered xs)
    stable [] z = refl
    stable (x ∷ xs) z = kept_put z x (ordered xs) ∙ ap (λ l. cond (ties lt z x) (x ∷ l) l) (stable xs z)
