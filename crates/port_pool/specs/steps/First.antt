-- The first number of an interval that passes a test.
use Rattle.std.specs.Prelude.{◌≡◌, ℕ, ◌/◌, ◌%◌, ◌<◌, ◌≤◌, Bool, true, false, ◌==◌, List}
use Rattle.std.specs.Prelude.{slice_index, bit_and, Option, Some, None}
use Rattle.std.specs.Int.{bit_at, bit_not, w64}

-- no number of the half-open interval passes
abbrev pub NoneWithin : (ℕ → Bool) → ℕ → ℕ → Type 0
NoneWithin p from to = (k : ℕ) → from ≤ k → k < to → p k ≡ false

-- this number passes, and none before it
pub record FirstAt (p : ℕ → Bool) (from to k : ℕ) : Type 0 where
  pub above : from ≤ k
  pub below : k < to
  pub passes : p k ≡ true
  pub before : NoneWithin p from k

-- the first number that passes, or none
abbrev pub IsFirst : (ℕ → Bool) → ℕ → ℕ → Option ℕ → Type 0
IsFirst p from to None = NoneWithin p from to
IsFirst p from to (Some k) = FirstAt p from to k

-- the bit is clear, and the mask has its position
unfoldable pub is_open : List ℕ → ℕ → ℕ → Bool
is_open words mask k = bit_at (bit_and (bit_not w64 (slice_index words (k / 64))) mask) (k % 64) == 1
