-- Counts of visited slots (own).
use Rattle.std.specs.Prelude.{◌≡◌, ◌≤◌, ◌+◌, ◌-◌, ◌^◌, ℕ, min}

-- a count after so many more, which stays at the greatest u64
unfoldable pub more : ℕ → ℕ → ℕ
more slots count = min (count + slots) (2 ^ 64 - 1)

-- so many slots are counted, no more and no fewer
pub record Counts (slots old new : ℕ) : Type 0 where
  pub exact : new ≡ more slots old
  pub rises : old ≤ new
  pub within : new ≤ old + slots
