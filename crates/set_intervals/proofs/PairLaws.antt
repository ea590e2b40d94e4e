-- The effect of edits of a list of pairs on its values.
use Rattle.std.proofs.Common.{◌≡◌, ℕ, zero, suc, ◌+◌, ◌<◌, ◌≤◌, List, [], ◌∷◌, ◌++◌, length, get_or, set, max, Bool}
use Rattle.std.proofs.Common.{true, false, ◌⊎◌, inl, inr, ⊎_elim, refl, sym, ap, ◌∙◌, subst, arith, take, Option}
use Rattle.std.proofs.Common.{Some, None, MatchOption, if◌then◌else◌}
use Rattle.std.proofs.lemmas.Bool.Decides.{nat_tests}
use Rattle.std.specs.List.Sorted.{IsPermutation}
use Rattle.std.proofs.lemmas.List.{take_more, take_more_set, take_all, length-set}
use Rattle.std.proofs.lemmas.List.Sorted.{Contains-permutation, IsPermutation-sym}
use Rattle.set_intervals.specs.declared.range.Range.{Range}
use Rattle.set_intervals.specs.Pairs.{Covers, HasValue, SameValues, HasClash, in_range, first_value}
use Rattle.set_intervals.specs.steps.Pieces.{Adds, ClashesWith}

-- ---- a pair that contains a number

holds_at : {V : Type 0} (xs : List (Range × V)) (i : ℕ) (d : Range × V) (key : ℕ) → i < length xs
    → Covers (get_or xs i d).0 key → HasValue xs key (get_or xs i d).1
holds_at [] i d key lt c = absurd (omega arith)
holds_at (x ∷ xs) zero d key lt c = inl (c, refl)
holds_at (x ∷ xs) (suc i) d key lt c = inr (holds_at xs i d key (omega arith) c)

-- a pair at an index gives its value
pub holds_read : {V : Type 0} (xs : List (Range × V)) (i : ℕ) (p : Range × V) (key : ℕ) → i < length xs → p
    ≡ get_or xs i p → Covers p.0 key → HasValue xs key p.1
holds_read {V} xs i p key lt is c = grind (arith, holds_at)

-- a pair that contains the number and has the value, and its index
pub record Place {V : Type 0} (xs : List (Range × V)) (key : ℕ) (v : V) : Type 0 where
  pub pair : Range × V
  pub at : ℕ
  pub in_list : at < length xs
  pub stands : (d : Range × V) → get_or xs at d ≡ pair
  pub covers : Covers pair.0 key
  pub value : pair.1 ≡ v

pub place_of : {V : Type 0} (xs : List (Range × V)) (key : ℕ) (v : V) → HasValue xs key v → Place xs key v
place_of [] key v h = absurd h
place_of (x ∷ xs) key v (inl h) = record { pair = x; at = 0; in_list = omega arith; stands = λ d. refl; covers = h.0; value = h.1 }
place_of (x ∷ xs) key v (inr h) =
    let r = place_of xs key v h in
    record { pair = r.pair; at = suc r.at; in_list = omega (arith, r.in_list); stands = r.stands; covers = r.covers; value = r.value }

pub place_covers : {V : Type 0} (xs : List (Range × V)) (key : ℕ) (v : V) (r : Place xs key v) (d : Range × V) → Covers (get_or xs r.at d).0 key
place_covers {V} xs key v r d = subst (λ (s : Range × V). Covers s.0 key) (sym (r.stands d)) r.covers

push_forth : {V : Type 0} (xs : List (Range × V)) (r : Range) (v : V) (key : ℕ) (w : V)
    → HasValue (xs ++ (r, v) ∷ []) key w → HasValue xs key w ⊎ (Covers r key × (v ≡ w))
push_forth [] r v key w (inl h) = inr h
push_forth [] r v key w (inr h) = absurd h
push_forth (x ∷ xs) r v key w (inl h) = inl (inl h)
push_forth (x ∷ xs) r v key w (inr h) = ⊎_elim (λ a. inl (inr a)) (λ b. inr b) (push_forth xs r v key w h)

push_back : {V : Type 0} (xs : List (Range × V)) (r : Range) (v : V) (key : ℕ) (w : V) → HasValue xs key w
    ⊎ (Covers r key × (v ≡ w)) → HasValue (xs ++ (r, v) ∷ []) key w
push_back [] r v key w (inl h) = absurd h
push_back [] r v key w (inr h) = inl h
push_back (x ∷ xs) r v key w (inl (inl h)) = inl h
push_back (x ∷ xs) r v key w (inl (inr h)) = inr (push_back xs r v key w (inl h))
push_back (x ∷ xs) r v key w (inr h) = inr (push_back xs r v key w (inr h))

-- a piece is appended
pub adds_push : {V : Type 0} (xs : List (Range × V)) (r : Range) (v : V) → Adds xs r v (xs ++ (r, v) ∷ [])
adds_push xs r v key w = (push_forth xs r v key w, push_back xs r v key w)

-- a list by its last element, and with another one set there
pub by_last : {X : Type 0} (xs : List X) (i : ℕ) (p : X) → i + 1 ≡ length xs → p ≡ get_or xs i p → xs ≡ take i xs ++ p ∷ []
by_last xs i p last is =
    sym (take_all (i + 1) xs (omega (arith, last))) ∙ take_more xs i p (omega (arith, last)) ∙ ap (λ q. take i xs ++ q ∷ []) (sym is)

pub set_last : {X : Type 0} (xs : List X) (i : ℕ) (q : X) → i + 1 ≡ length xs → set xs i q ≡ take i xs ++ q ∷ []
set_last xs i q last = sym (take_all (i + 1) (set xs i q) (omega (arith, last, length-set xs i q))) ∙ take_more_set xs i q (omega (arith, last))

-- the last piece is replaced by a wider one with the same low end
pub adds_widen : {V : Type 0} (xs : List (Range × V)) (i : ℕ) (p : Range × V) (q r : Range) (v : V) → i + 1 ≡ length xs
    → p ≡ get_or xs i p → p.1 ≡ v → ((key : ℕ) → Covers q key → Covers p.0 key ⊎ Covers r key)
    → ((key : ℕ) → Covers p.0 key ⊎ Covers r key → Covers q key) → Adds xs r v (set xs i (q, p.1))
adds_widen {V} xs i p q r v last is same split join =
    let front = take i xs in
    subst (λ l. Adds l r v (set xs i (q, p.1))) (sym (by_last xs i p last is))
    (subst (λ l. Adds (front ++ p ∷ []) r v l) (sym (set_last xs i (q, p.1) last)) (λ key w. (
      λ h. elim (push_forth front q p.1 key w h) [
        | inl old ↦ inl (push_back front p.0 p.1 key w (inl old))
        | inr now ↦ elim (split key now.0) [ inl a ↦ inl (push_back front p.0 p.1 key w (inr (a, now.1))) | inr b ↦ inr (b, sym same ∙ now.1) ]
      ],
      λ h. push_back front q p.1 key w (elim h [
        | inl old ↦ elim (push_forth front p.0 p.1 key w old) [ inl before ↦ inl before | inr now ↦ inr (join key (inl now.0), now.1) ]
        | inr now ↦ inr (join key (inr now.0), same ∙ now.1)
      ]),
    )))

-- two ranges that overlap or are adjacent, and their merged range
pub covers_split : (first later both : Range) → later.low ≤ first.high + 1 → both.low ≡ first.low → both.high
    ≡ max first.high later.high → (key : ℕ) → Covers both key → Covers first key ⊎ Covers later key
covers_split first later both near low high key h = grind arith

pub covers_merge : (first later both : Range) → first.low ≤ later.low → both.low ≡ first.low → both.high
    ≡ max first.high later.high → (key : ℕ) → Covers first key ⊎ Covers later key → Covers both key
covers_merge first later both rising low high key (inl h) = record { above = omega (arith, h.above); below = omega (arith, h.below) }
covers_merge first later both rising low high key (inr h) = record { above = omega (arith, h.above); below = omega (arith, h.below) }

-- ---- the pairs so far

-- one more pair
pub adds_take : {V : Type 0} (xs : List (Range × V)) (i : ℕ) (r : Range) (v : V) → i < length xs → (r, v)
    ≡ get_or xs i (r, v) → Adds (take i xs) r v (take (i + 1) xs)
adds_take {V} xs i r v lt is =
    let e : take (i + 1) xs ≡ take i xs ++ (r, v) ∷ [] = take_more xs i (r, v) lt ∙ ap (λ (p : Range × V). take i xs ++ p ∷ []) (sym is) in
    subst (λ l. Adds (take i xs) r v l) (sym e) (adds_push (take i xs) r v)

-- the same pair is appended to both lists
pub same_more : {V : Type 0} (old new xs ys : List (Range × V)) (r : Range) (v : V) → SameValues old xs → Adds old r v new → Adds xs r v ys → SameValues new ys
same_more {V} old new xs ys r v same adds adds' key w = grind arith

-- the pairs in another order
pub holds_permutation : {V : Type 0} (xs ys : List (Range × V)) → IsPermutation xs ys → (key : ℕ) (v : V) → HasValue xs key v → HasValue ys key v
holds_permutation {V} xs ys perm key v h =
    let r = place_of xs key v h in
    let c = Contains-permutation xs ys r.pair perm (r.at, r.in_list, r.stands r.pair) in
    subst (λ u. HasValue ys key u) r.value (holds_read ys c.0 r.pair key c.1 (sym c.2) r.covers)

-- the pieces have the same values as all pairs, in any order
pub same_permutation : {V : Type 0} (pieces xs ys : List (Range × V)) (i : ℕ) → length xs ≤ i
    → SameValues pieces (take i xs) → IsPermutation ys xs → SameValues pieces ys
same_permutation {V} pieces xs ys i all same perm key v =
    let whole : take i xs ≡ xs = take_all i xs all in
    let back = IsPermutation-sym ys xs perm in (
      λ h. holds_permutation xs ys back key v (subst (λ l. HasValue l key v) whole ((same key v).0 h)),
      λ h. (same key v).1 (subst (λ l. HasValue l key v) (sym whole) (holds_permutation ys xs perm key v h)),
    )

-- a pair that clashes with earlier ones
pub clash_of : {V : Type 0} (pieces xs ys : List (Range × V)) (i : ℕ) (r : Range) (v : V) → i < length xs → (r, v)
    ≡ get_or xs i (r, v) → SameValues pieces (take i xs) → IsPermutation ys xs → ClashesWith pieces r v → HasClash ys
clash_of {V} pieces xs ys i r v lt is same perm h =
    let back = IsPermutation-sym ys xs perm in
    record {
      key = h.key;
      one = h.other;
      other = v;
      has_one = holds_permutation xs ys back h.key h.other (holds_before xs i h.key h.other ((same h.key h.other).0 h.has_other));
      has_other = holds_permutation xs ys back h.key v (holds_read xs i (r, v) h.key lt is h.within);
      differ = h.differ;
    }
  where
    holds_before : (xs : List (Range × V)) (i key : ℕ) (w : V) → HasValue (take i xs) key w → HasValue xs key w
    holds_before xs zero key w h = absurd h
    holds_before [] (suc i) key w h = absurd h
    holds_before (x ∷ xs) (suc i) key w (inl h) = inl h
    holds_before (x ∷ xs) (suc i) key w (inr h) = inr (holds_before xs i key w h)

-- ---- the first pair that contains a number

-- the first value is a value, and `None` means that there is none
abbrev pub Says : {V : Type 0} → List (Range × V) → ℕ → Option V → Type 0
Says {V} xs key o = MatchOption o ((v : V) → HasValue xs key v → ⊥) (λ v. HasValue xs key v)

covers_from_test : (r : Range) (key : ℕ) → in_range r key ≡ true → Covers r key
covers_from_test r key h = record { above = grind (arith, nat_tests, h); below = grind (arith, nat_tests, h) }

test_from_covers : (r : Range) (key : ℕ) → in_range r key ≡ false → Covers r key → ⊥
test_from_covers r key h c = let above = c.above in let below = c.below in grind (arith, nat_tests, h)

first_value_step : {V : Type 0} (x : Range × V) (xs : List (Range × V)) (key : ℕ) (b : Bool) → in_range x.0 key ≡ b
    → (o : Option V) → Says xs key o → Says (x ∷ xs) key (if b then Some x.1 else o)
first_value_step x xs key true e o h = inl (covers_from_test x.0 key e, refl)
first_value_step x xs key false e None h = λ v held. ⊎_elim (λ a. test_from_covers x.0 key e a.0) (λ b. h v b) held
first_value_step x xs key false e (Some v) h = inr h

pub first_value_holds : {V : Type 0} (xs : List (Range × V)) (key : ℕ) → Says xs key (first_value xs key)
first_value_holds [] key = λ v h. h
first_value_holds (x ∷ xs) key = first_value_step x xs key (in_range x.0 key) refl (first_value xs key) (first_value_holds xs key)

pub same_itself : {V : Type 0} (xs : List (Range × V)) → SameValues xs xs
same_itself xs key v = (λ h. h, λ h. h)
