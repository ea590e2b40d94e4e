-- Stable sorting is unique: two sorted lists in which ties have the same order are equal.
use Rattle.std.proofs.Common.{◌≡◌, ℕ, suc, ◌≤◌, ◌<◌, Bool, true, false, not, ◌&&◌, cond, List, [], ◌∷◌, length, get_or, filter, refl, sym, ap, ◌∙◌, arith}
use Rattle.std.specs.Cmp.{IsStrictWeakOrder}
use Rattle.std.specs.List.Sorted.{IsSortedBy, IsStableBy, ties}
use Rattle.std.proofs.lemmas.List.Sorted.{sorted_far}

module _ {X : Type 0} (lt : X → X → Bool) (o : IsStrictWeakOrder lt) where
  -- none is less than one before it
  abbrev Rises : List X → Type 0
  Rises xs = (i j : ℕ) (d : X) → i ≤ j → j < length xs → lt (get_or xs j d) (get_or xs i d) ≡ false

  rest_rises : (x : X) (xs : List X) → Rises (x ∷ xs) → Rises xs
  rest_rises x xs up i j d le within = up (suc i) (suc j) d (omega arith) (omega arith)

  not_both : (b c : Bool) → not b && not c ≡ true → (b ≡ false) × (c ≡ false)
  not_both true c e = grind arith
  not_both false true e = grind arith
  not_both false false e = (refl, refl)

  neither : (b : Bool) → (b ≡ true → b ≡ false) → b ≡ false
  neither true h = h refl
  neither false h = refl

  itself : (x : X) → lt x x ≡ false
  itself x = neither (lt x x) (o.one_way x x)

  tie : (x y : X) → lt x y ≡ false → lt y x ≡ false → ties lt x y ≡ true
  tie x y a b = rw (a, b) refl

  kept : (t : X → Bool) (x : X) (xs : List X) → t x ≡ true → filter t (x ∷ xs) ≡ x ∷ filter t xs
  kept t x xs e = ap (λ b. cond b (x ∷ filter t xs) (filter t xs)) e

  left_out : (t : X → Bool) (x : X) (xs : List X) → t x ≡ false → filter t (x ∷ xs) ≡ filter t xs
  left_out t x xs e = ap (λ b. cond b (x ∷ filter t xs) (filter t xs)) e

  -- what ties with an element of a list is no less than a lower bound of the list
  not_less : (x y : X) (b : List X) → ((k : ℕ) (d : X) → k < length b → lt (get_or b k d) y ≡ false)
      → (x' : X) (rest : List X) → filter (ties lt x) b ≡ x' ∷ rest → lt x y ≡ false
  not_less x y [] h x' rest e = grind arith
  not_less x y (z ∷ zs) h x' rest e = by_test (ties lt x z) refl (not_less x y zs (λ k d p. h (suc k) d (omega arith)) x' rest)
    where
      by_test : (b : Bool) → ties lt x z ≡ b → (filter (ties lt x) zs ≡ x' ∷ rest → lt x y ≡ false) → lt x y ≡ false
      by_test true is next = o.chain x z y (not_both (lt x z) (lt z x) is).0 (h 0 z (omega arith))
      by_test false is next = next (sym (left_out (ties lt x) z zs is) ∙ e)

  abbrev hd : X → List X → X
  hd d [] = d
  hd d (x ∷ xs) = x

  abbrev tl : List X → List X
  tl [] = []
  tl (x ∷ xs) = xs

  -- no element of a sorted list is less than the first
  from_first : (y : X) (ys : List X) → Rises (y ∷ ys) → (k : ℕ) (d : X) → k < length (y ∷ ys) → lt (get_or (y ∷ ys) k d) y ≡ false
  from_first y ys up k d within = up 0 k d (omega arith) within

  same_first : (x y : X) (xs ys : List X) → Rises (x ∷ xs) → Rises (y ∷ ys) → ((z : X) → filter (ties lt z) (x ∷ xs) ≡ filter (ties lt z) (y ∷ ys)) → x ≡ y
  same_first x y xs ys up up' h =
      let at_x = kept (ties lt x) x xs (tie x x (itself x) (itself x)) in
      let at_y = kept (ties lt y) y ys (tie y y (itself y) (itself y)) in
      let low = not_less x y (y ∷ ys) (from_first y ys up') x (filter (ties lt x) xs) (sym (h x) ∙ at_x) in
      let high = not_less y x (x ∷ xs) (from_first x xs up) y (filter (ties lt y) ys) (h y ∙ at_y) in
      ap (hd x) (sym at_x ∙ h x ∙ kept (ties lt x) y ys (tie x y low high))

  same_rest : (x : X) (xs ys : List X) (z : X) → filter (ties lt z) (x ∷ xs) ≡ filter (ties lt z) (x ∷ ys) → filter (ties lt z) xs ≡ filter (ties lt z) ys
  same_rest x xs ys z e = grind arith

  no_more : (y : X) (ys : List X) → filter (ties lt y) [] ≡ filter (ties lt y) (y ∷ ys) → ⊥
  no_more y ys e = grind arith

  one_list : (a b : List X) → Rises a → Rises b → ((z : X) → filter (ties lt z) a ≡ filter (ties lt z) b) → a ≡ b
  one_list [] [] up up' h = refl
  one_list [] (y ∷ ys) up up' h = absurd (no_more y ys (h y))
  one_list (x ∷ xs) [] up up' h = absurd (no_more x xs (sym (h x)))
  one_list (x ∷ xs) (y ∷ ys) up up' h =
      let first = same_first x y xs ys up up' h in
      let rest = one_list xs ys (rest_rises x xs up) (rest_rises y ys up')
      (λ z. same_rest x xs ys z (h z ∙ ap (λ w. filter (ties lt z) (w ∷ ys)) (sym first))) in
      ap (λ w. w ∷ xs) first ∙ ap (λ l. y ∷ l) rest

  pub one_order : (text a b : List X) → IsSortedBy lt a → IsStableBy lt text a → IsSortedBy lt b → IsStableBy lt text b → a ≡ b
  one_order text a b up stable up' stable' = one_list a b (sorted_far lt o a up) (sorted_far lt o b up') (λ z. stable z ∙ sym (stable' z))
