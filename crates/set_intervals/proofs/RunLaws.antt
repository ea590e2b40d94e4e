-- A table has one piece for each run of consecutive numbers with one value.
use Rattle.std.proofs.Common.{◌≡◌, ℕ, ◌+◌, ◌-◌, ◌<◌, List, [], ◌∷◌, length, map, get_or, ⊎_elim, sym, ap, ◌∙◌, subst, arith, Contains}
use Rattle.std.specs.List.Sorted.{IsStrictlyIncreasing}
use Rattle.std.proofs.lemmas.List.{get_or-map, get_or_default, length-map}
use Rattle.std.proofs.lemmas.Bool.{cases_lt}
use Rattle.set_intervals.specs.declared.range.Range.{Range}
use Rattle.set_intervals.specs.Pairs.{HasValue, BeginsRun, HasRuns}
use Rattle.set_intervals.specs.steps.Pieces.{IsTable}
use Rattle.set_intervals.proofs.PairLaws.{holds_read, place_of, place_covers}

-- the low ends of the pieces
lows : {V : Type 0} → List (Range × V) → List ℕ
lows xs = map (λ p. p.0.low) xs

-- some pair, if there is one
first_pair : {V : Type 0} (xs : List (Range × V)) (i : ℕ) → i < length xs → Range × V
first_pair [] i lt = absurd (omega arith)
first_pair (x ∷ xs) i lt = x

low_at : {V : Type 0} (xs : List (Range × V)) (i : ℕ) (d : Range × V) (e : ℕ) → i < length xs → get_or (lows xs) i e ≡ (get_or xs i d).0.low
unfolding lows
low_at xs i d e lt = get_or-map (λ p. p.0.low) xs i d e lt

count_lows : {V : Type 0} (xs : List (Range × V)) → length (lows xs) ≡ length xs
unfolding lows
count_lows xs = length-map xs (λ p. p.0.low)

lows_rise : {V : Type 0} (xs : List (Range × V)) → IsTable xs → IsStrictlyIncreasing (lows xs)
lows_rise xs table k lt =
    let next : k + 1 < length xs = omega (arith, count_lows xs) in
    let here : k < length xs = omega arith in
    let d = first_pair xs k here in
    omega (arith, low_at xs k d 0 here, low_at xs (k + 1) d 0 next, table.separate k (k + 1) d (omega arith) next, (get_or xs k d).0.ordered)

-- the number before a piece hasn't the piece's value
fresh_at : {V : Type 0} (xs : List (Range × V)) → IsTable xs → (i : ℕ) (d : Range × V) → i < length xs → (before : ℕ)
    → before + 1 ≡ (get_or xs i d).0.low → HasValue xs before (get_or xs i d).1 → ⊥
fresh_at {V} xs table i d lt before next held =
    let other = place_of xs before (get_or xs i d).1 held in
    let j = other.at in
    let here = place_covers xs before (get_or xs i d).1 other d in
    let no_more : i < j → ⊥ = λ past. omega (arith, here.above, table.separate i j d past other.in_list, (get_or xs i d).0.ordered) in
    let not_same : j ≡ i → ⊥ = λ e. omega (arith, here.above, ap (λ n. (get_or xs n d).0.low) e) in
    let near : j + 1 < i → ⊥ = λ far.
    let middle = table.separate j (j + 1) d (omega arith) (omega (arith, far, lt)) in
    omega (arith, here.below, middle, (get_or xs (j + 1) d).0.ordered, table.separate (j + 1) i d far lt) in
    let e : j + 1 ≡ i = omega (arith, no_more, not_same, near) in
    let touch : (get_or xs j d).0.high + 1 ≡ (get_or xs (j + 1) d).0.low =
    omega (arith, here.below, table.separate j i d (omega (arith, e)) lt, ap (λ n. (get_or xs n d).0.low) e) in
    table.merged j d (omega (arith, e, lt)) touch
    (ap (λ (s : Range × V). s.1) (other.stands d) ∙ other.value ∙ ap (λ n. (get_or xs n d).1) (sym e))

begins : {V : Type 0} (xs : List (Range × V)) → IsTable xs → (key : ℕ) → Contains (lows xs) key → BeginsRun xs key
begins {V} xs table key c =
    let lt : c.0 < length xs = omega (arith, c.1, count_lows xs) in
    let d = first_pair xs c.0 lt in
    let p = get_or xs c.0 d in
    let low : p.0.low ≡ key = sym (low_at xs c.0 d key lt) ∙ c.2 in
    let is : p ≡ get_or xs c.0 p = get_or_default xs c.0 d p lt in
    record {
      value = p.1;
      here = holds_read xs c.0 p key lt is (record { above = omega (arith, low); below = omega (arith, low, p.0.ordered) });
      fresh = λ before next held. fresh_at xs table c.0 d lt before (next ∙ sym low) held;
    }

has_low : {V : Type 0} (xs : List (Range × V)) (key : ℕ) → BeginsRun xs key → Contains (lows xs) key
has_low {V} xs key begin =
    let r = place_of xs key begin.value begin.here in
    let p = r.pair in
    let is = r.stands p in
    let low : p.0.low ≡ key = ⊎_elim
    (λ less. absurd (begin.fresh (key - 1) (omega arith)
    (subst (λ u. HasValue xs (key - 1) u) r.value
    (holds_read xs r.at p (key - 1) r.in_list (sym is)
    (record { above = omega arith; below = omega (arith, r.covers.below) })))))
    (λ more. omega (arith, more, r.covers.above))
    (cases_lt p.0.low key) in
    (r.at, omega (arith, r.in_list, count_lows xs), low_at xs r.at p key r.in_list ∙ ap (λ (s : Range × V). s.0.low) is ∙ low)

pub has_runs : {V : Type 0} (xs : List (Range × V)) (n : ℕ) → IsTable xs → n ≡ length xs → HasRuns xs n
has_runs xs n table whole = record {
  starts = lows xs;
  rising = lows_rise xs table;
  exact = λ key. (begins xs table key, has_low xs key);
  many = count_lows xs ∙ sym whole;
}
