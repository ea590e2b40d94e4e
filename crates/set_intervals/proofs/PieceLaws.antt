-- The invariant of a table's pieces.
use Rattle.std.proofs.Common.{◌≡◌, ◌≢◌, ℕ, zero, suc, ◌+◌, ◌-◌, ◌<◌, ◌≤◌, List, [], ◌∷◌, ◌++◌, length, get_or, set, inl, inr, refl}
use Rattle.std.proofs.Common.{take, sym, ap, ◌∙◌, arith, length-append, Option, Some, None}
use Rattle.std.specs.List.Sorted.{IsNonDecreasing, IsNonDecreasingBy}
use Rattle.std.proofs.Math.Seq.{get_or-append_seam}
use Rattle.std.proofs.lemmas.List.{get_or_append_left, get_or_default, get_or-set_same, get_or-set_other, length-set, get_or-map, length-map}
use Rattle.std.proofs.lemmas.Bool.{cases_lt, cases_eq}
use Rattle.std.proofs.lemmas.Grind.{common_steps}
use Rattle.set_intervals.specs.declared.range.Range.{Range}
use Rattle.set_intervals.specs.declared.table.Overlap.TheVariants.{Disjoint}
use Rattle.set_intervals.specs.Pairs.{HasValue, SameValues, HasClash}
use Rattle.set_intervals.specs.steps.Pieces.{IsSeparate, IsMerged, IsTable, StartsBefore, ClassifiesOverlap, IsLowerBound, highs}
use Rattle.set_intervals.proofs.PairLaws.{place_of, place_covers, Says}

-- the high ends of pieces ascend
pub highs_rise : {V : Type 0} (xs : List (Range × V)) → IsSeparate xs → IsNonDecreasingBy (λ (p : Range × V). p.0.high) xs
highs_rise xs sep i j d le lt = grind arith

pub highs_ascend : {V : Type 0} (xs : List (Range × V)) → IsSeparate xs → IsNonDecreasing (highs xs)
highs_ascend [] sep i j d le lt = absurd (omega (arith, lt))
highs_ascend (x ∷ xs) sep i j d le lt =
    let ys = x ∷ xs in
    let inside : j < length ys = omega (arith, lt, length-map ys (λ p. p.0.high)) in
    let read = λ (k : ℕ) (in_list : k < length ys). get_or-map (λ p. p.0.high) ys k x d in_list in
    omega (arith, highs_rise ys sep i j x le inside, read i (omega (arith, le, inside)), read j inside)

pub highs_more : {V : Type 0} (xs : List (Range × V)) (i : ℕ) (p : Range × V) → i < length xs → p ≡ get_or xs i p
    → highs (take i xs) ++ p.0.high ∷ [] ≡ highs (take (i + 1) xs)
highs_more xs i p lt is = grind (arith, common_steps)

-- ---- a new last piece

-- the last piece, for any index and default
pub last_is : {V : Type 0} (xs : List (Range × V)) (n i : ℕ) (d q : Range × V) → n ≡ length xs → i + 1 ≡ length xs → q ≡ get_or xs (n - 1) q → get_or xs i d ≡ q
last_is xs n i d q whole last is = grind (arith, get_or_default, get_or)

pub separate_push : {V : Type 0} (xs : List (Range × V)) (p : Range × V) → IsSeparate xs
    → ((i : ℕ) (d : Range × V) → i + 1 ≡ length xs → (get_or xs i d).0.high < p.0.low) → IsSeparate (xs ++ p ∷ [])
separate_push xs p sep after i j d lt inside =
    let len = length-append xs (p ∷ []) in
    let i_in : i < length xs = omega (arith, len) in
    elim (cases_lt j (length xs)) [
      | inl old ↦ rw (get_or_append_left xs (p ∷ []) d i i_in, get_or_append_left xs (p ∷ []) d j old) (sep i j d lt old)
      | inr past ↦
          let j_is : j ≡ length xs = omega (arith, len) in
          let at_end : get_or (xs ++ p ∷ []) j d ≡ p = ap (λ n. get_or (xs ++ p ∷ []) n d) j_is ∙ get_or-append_seam xs p [] d in
          let rise = highs_rise xs sep i (length xs - 1) d (omega arith) (omega arith) in
          rw (get_or_append_left xs (p ∷ []) d i i_in, at_end) (omega (arith, rise, after (length xs - 1) d (omega arith)))
    ]

pub merged_push : {V : Type 0} (xs : List (Range × V)) (p : Range × V) → IsMerged xs
    → ((i : ℕ) (d : Range × V) → i + 1 ≡ length xs → (get_or xs i d).0.high + 1 ≡ p.0.low → (get_or xs i d).1 ≢ p.1)
    → IsMerged (xs ++ p ∷ [])
merged_push xs p merged last i d lt =
    let len = length-append xs (p ∷ []) in
    let in_old : i < length xs = omega (arith, len) in
    elim (cases_lt (i + 1) (length xs)) [
      | inl next ↦ rw (get_or_append_left xs (p ∷ []) d i in_old, get_or_append_left xs (p ∷ []) d (i + 1) next) (merged i d next)
      | inr past ↦
          let j_is : i + 1 ≡ length xs = omega (arith, len) in
          let at_end : get_or (xs ++ p ∷ []) (i + 1) d ≡ p = ap (λ n. get_or (xs ++ p ∷ []) n d) j_is ∙ get_or-append_seam xs p [] d in
          rw (get_or_append_left xs (p ∷ []) d i in_old, at_end) (last i d j_is)
    ]

-- a new last piece that can't merge with the one before it
pub table_push : {V : Type 0} (xs : List (Range × V)) (n : ℕ) (q p : Range × V) → IsTable xs → n ≡ length xs → q
    ≡ get_or xs (n - 1) q → ClassifiesOverlap q p Disjoint → IsTable (xs ++ p ∷ [])
table_push {V} xs n q p table whole is apart =
    grind (arith, separate_push, table.separate, p.0.low, last_is, apart.0, merged_push, table.merged, p.1, apart.1)

-- ---- a wider piece

pub starts_widen : {V : Type 0} (xs : List (Range × V)) (i : ℕ) (p q : Range × V) (n : ℕ) → i < length xs → p
    ≡ get_or xs i p → q.0.low ≡ p.0.low → StartsBefore xs n → StartsBefore (set xs i q) n
starts_widen {V} xs i p q n lt is same before j d in_list = grind (arith, cases_eq, get_or, get_or-set_same, get_or-set_other, length-set)

-- what a new element has in common with the old one is kept at each index
kept_by : {X Y : Type 0} (f : X → Y) (xs : List X) (i k : ℕ) (p q d : X) → i < length xs → p ≡ get_or xs i p → f q ≡ f p
    → f (get_or (set xs i q) k d) ≡ f (get_or xs k d)
kept_by f (x ∷ xs) zero zero p q d lt is same = same ∙ ap f is
kept_by f (x ∷ xs) zero (suc k) p q d lt is same = refl
kept_by f (x ∷ xs) (suc i) zero p q d lt is same = refl
kept_by f (x ∷ xs) (suc i) (suc k) p q d lt is same = kept_by f xs i k p q d (omega arith) is same
kept_by f [] i k p q d lt is same = absurd (omega arith)

-- the last piece
pub table_widen : {V : Type 0} (xs : List (Range × V)) (i : ℕ) (p q : Range × V) → i + 1 ≡ length xs → p ≡ get_or xs i p
    → q.0.low ≡ p.0.low → q.1 ≡ p.1 → IsTable xs → IsTable (set xs i q)
table_widen {V} xs i p q last is low value table =
    let len = length-set xs i q in
    let lt : i < length xs = omega arith in
    let lows = λ (k : ℕ) (d : Range × V). kept_by (λ (r : Range × V). r.0.low) xs i k p q d lt is low in
    let values = λ (k : ℕ) (d : Range × V). kept_by (λ (r : Range × V). r.1) xs i k p q d lt is value in
    let others = λ (j : ℕ) (d : Range × V) (e : j ≢ i). ap (λ (r : Range × V). r.0.high) (get_or-set_other xs i j q d e) in
    record {
      separate = λ j k d less inside.
          omega (arith, table.separate j k d less (omega (arith, len, inside)), others j d (λ e. omega (arith, e, less, inside, len)), lows k d);
      merged = λ j d next touch same. table.merged j d (omega (arith, len, next))
          (omega (arith, touch, others j d (λ e. omega (arith, e, next, len)), lows (j + 1) d)) (sym (values j d) ∙ same ∙ values (j + 1) d);
    }

-- ---- the one value at a number

-- a key above the pieces before an index and below the piece there has no value
pub not_held : {V : Type 0} (xs : List (Range × V)) → IsSeparate xs → (key at : ℕ)
    → IsLowerBound xs key at → ((d : Range × V) → at < length xs → key < (get_or xs at d).0.low) → (v : V)
    → HasValue xs key v → ⊥
not_held xs sep key at reach later v h =
    let r = place_of xs key v h in
    let d = r.pair in
    let here = place_covers xs key v r d in
    let past : at < r.at → ⊥ = λ after. omega (arith, sep at r.at d after r.in_list, later d, here.above, (get_or xs at d).0.ordered) in
    let no_less : at ≤ r.at = grind (arith, (reach r.at d r.in_list).0, here.below) in
    let e : r.at ≡ at = omega (arith, past, no_less) in
    omega (arith, later d (omega (arith, e, r.in_list)), ap (λ (n : ℕ). (get_or xs n d).0.low) e, here.above)

-- disjoint pieces have at most one value at a key
one_value : {V : Type 0} (xs : List (Range × V)) → IsSeparate xs → (key : ℕ) (v w : V) → HasValue xs key v → HasValue xs key w → v ≡ w
one_value {V} xs sep key v w hv hw =
    let a = place_of xs key v hv in
    let b = place_of xs key w hw in
    let d = a.pair in
    let in_a = place_covers xs key v a d in
    let in_b = place_covers xs key w b d in
    let no_less : a.at < b.at → ⊥ = λ lt. omega (arith, in_a.below, in_b.above, sep a.at b.at d lt b.in_list) in
    let no_more : b.at < a.at → ⊥ = λ gt. omega (arith, in_b.below, in_a.above, sep b.at a.at d gt a.in_list) in
    let e : a.at ≡ b.at = omega (arith, no_less, no_more) in
    sym a.value ∙ ap (λ (s : Range × V). s.1) (sym (a.stands d) ∙ ap (λ n. get_or xs n d) e ∙ b.stands d) ∙ b.value

-- the value at a key is unique
pub one_answer : {V : Type 0} (xs ys : List (Range × V)) → IsSeparate xs → SameValues xs ys → (key : ℕ) (a b : Option V) → Says xs key a → Says ys key b → a ≡ b
one_answer xs ys sep same key None None ha hb = refl
one_answer xs ys sep same key None (Some w) ha hb = absurd (ha w ((same key w).1 hb))
one_answer xs ys sep same key (Some v) None ha hb = absurd (hb v ((same key v).0 ha))
one_answer xs ys sep same key (Some v) (Some w) ha hb = ap Some (one_value xs sep key v w ha ((same key w).1 hb))

-- a table's pairs don't clash
pub no_clash : {V : Type 0} (xs ys : List (Range × V)) → IsSeparate xs → SameValues xs ys → HasClash ys → ⊥
no_clash xs ys sep same clash = grind (arith, clash.differ, one_value, clash.key, clash.one, clash.other, clash.has_one, clash.has_other)
