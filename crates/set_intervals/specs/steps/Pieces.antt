-- The intervals of a table as the code keeps them.
use Rattle.std.specs.Prelude.{◌≡◌, ◌≢◌, ◌%◌, ◌^◌, ℕ, ◌+◌, ◌<◌, ◌≤◌, ◌↔◌, List, length, map, ◌⊎◌, slice_index_or}
use Rattle.set_intervals.specs.declared.range.Range.{Range}
use Rattle.set_intervals.specs.declared.table.Overlap.{Overlap}
use Rattle.set_intervals.specs.declared.table.Overlap.TheVariants.{Disjoint, Mergeable, Clashes}
use Rattle.set_intervals.specs.Pairs.{Covers, HasValue}

-- the ranges are disjoint and ascend
abbrev pub IsSeparate : {V : Type 0} → List (Range × V) → Type 0
IsSeparate {V} xs =
    (i j : ℕ) (d : Range × V) → i < j → j < length xs
    → (slice_index_or xs i d).0.high < (slice_index_or xs j d).0.low

-- adjacent ranges have different values
abbrev pub IsMerged : {V : Type 0} → List (Range × V) → Type 0
IsMerged {V} xs =
    (i : ℕ) (d : Range × V) → i + 1 < length xs
    → (slice_index_or xs i d).0.high + 1 ≡ (slice_index_or xs (i + 1) d).0.low
    → (slice_index_or xs i d).1 ≢ (slice_index_or xs (i + 1) d).1

-- the invariant of a table: disjoint, ascending, merged where possible
pub record IsTable {V : Type 0} (xs : List (Range × V)) : Type 0 where
  pub separate : IsSeparate xs
  pub merged : IsMerged xs

-- no range starts above the number
abbrev pub StartsBefore : {V : Type 0} → List (Range × V) → ℕ → Type 0
StartsBefore {V} xs n = (i : ℕ) (d : Range × V) → i < length xs → (slice_index_or xs i d).0.low ≤ n

-- the new list has the old one's values, and the value `v` at each number of the range
abbrev pub Adds : {V : Type 0} → List (Range × V) → Range → V → List (Range × V) → Type 0
Adds {V} old r v new =
    (key : ℕ) (w : V) → HasValue new key w ↔ (HasValue old key w ⊎ (Covers r key × (v ≡ w)))

-- the list has another value at a number of the range
pub record ClashesWith {V : Type 0} (xs : List (Range × V)) (r : Range) (v : V) : Type 0 where
  pub key : ℕ
  pub other : V
  pub within : Covers r key
  pub has_other : HasValue xs key other
  pub differ : other ≢ v

-- how a pair relates to a piece that starts no later
abbrev pub ClassifiesOverlap : {V : Type 0} → Range × V → Range × V → Overlap → Type 0
ClassifiesOverlap piece pair Disjoint =
    (piece.0.high < pair.0.low) × (piece.0.high + 1 ≡ pair.0.low → piece.1 ≢ pair.1)
ClassifiesOverlap piece pair Mergeable = (pair.0.low ≤ piece.0.high + 1) × (piece.1 ≡ pair.1)
ClassifiesOverlap piece pair Clashes = (pair.0.low ≤ piece.0.high) × (piece.1 ≢ pair.1)

-- the index is the lower bound of `key` by the ranges' ends: exactly the pieces before it end below `key`
abbrev pub IsLowerBound : {V : Type 0} → List (Range × V) → ℕ → ℕ → Type 0
IsLowerBound {V} xs key at =
    (i : ℕ) (d : Range × V) → i < length xs
    → (i < at → (slice_index_or xs i d).0.high < key) × (at ≤ i → key ≤ (slice_index_or xs i d).0.high)

-- the highest numbers of the ranges
abbrev pub highs : {V : Type 0} → List (Range × V) → List ℕ
highs {V} xs = map (λ (p : Range × V). p.0.high) xs

-- the numbers of all ranges have at most 64 bits
abbrev pub AreShort : {V : Type 0} → List (Range × V) → Type 0
AreShort {V} xs = (i : ℕ) (d : Range × V) → i < length xs → (slice_index_or xs i d).0.high < 2 ^ 64

-- the low 64 bits of a number
abbrev pub low_half : ℕ → ℕ
low_half number = number % 2 ^ 64
