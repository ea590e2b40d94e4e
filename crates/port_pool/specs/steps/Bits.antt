-- A bitmap of 65,536 bits, as words of 64 bits.
use Rattle.std.specs.Prelude.{◌≡◌, ℕ, zero, suc, ◌+◌, ◌/◌, ◌%◌, Bool, ◌==◌}
use Rattle.std.specs.Prelude.{if◌then◌else◌, List, length, slice_index}
use Rattle.std.specs.Int.{bit_at}

-- whether a bit is set
unfoldable pub bit : List ℕ → ℕ → Bool
bit words at = bit_at (slice_index words (at / 64)) (at % 64) == 1

-- how many numbers below this one pass
unfoldable pub count_below : (ℕ → Bool) → ℕ → ℕ
count_below p zero = 0
count_below p (suc n) = (if p n then 1 else 0) + count_below p n

-- a bitmap, and how many of its bits are set
pub record IsCounted (words : List ℕ) (count : ℕ) : Type 0 where
  pub long : length words ≡ 1024
  pub counts : count ≡ count_below (bit words) 65536
