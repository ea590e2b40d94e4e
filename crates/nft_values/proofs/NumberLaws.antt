-- Whether a number fits a width.
use Rattle.std.proofs.Common.{◌≡◌, ℕ, ◌/◌, ◌^◌, ◌<◌, ◌≤◌, true, arith}
use Rattle.std.specs.Prelude.{◌==◌, nat_lt}
use Rattle.std.proofs.lemmas.Bool.{cases_lt, lt-ltb}
use Rattle.std.proofs.Math.Nat.{div-eq_of_lt}
use Rattle.std.proofs.Math.Pow.{pow_mono, pow_pos}

pub fits_wide : (n w : ℕ) → n < 2 ^ 64 → 64 ≤ w → nat_lt n (2 ^ w) ≡ true
fits_wide n w small wide = let more : 2 ^ 64 ≤ 2 ^ w = pow_mono wide in lt-ltb n (2 ^ w) (omega arith)

some_times : (n k : ℕ) → 0 < k → k ≤ n → 0 < n / k
some_times n k some le = grind arith

pub shifted_out : (n w : ℕ) → (n / 2 ^ w == 0) ≡ nat_lt n (2 ^ w)
shifted_out n w = grind (arith, cases_lt, div-eq_of_lt, some_times, pow_pos)
