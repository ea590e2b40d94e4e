-- A concatenation has at most as many bits as its parts together.
use Rattle.lowering.proofs.Names.{ComparedType, List, Range, arith, compared_type_width, drop, false, get_or, is_too_wide, length}
use Rattle.lowering.proofs.Names.{suc, sum_by, zero, ℕ, ◌*◌, ◌+◌, ◌<◌, ◌^◌, ◌≡◌, ◌≤◌}
use Rattle.std.proofs.lemmas.List.Sums.{sum_by-drop_more}
use Rattle.std.proofs.lemmas.Nat.{pow-add, mul-le}
use Rattle.std.proofs.Math.Pow.{pow_mono}

-- the number so far, with parts of these types behind it, has at most 128 bits
pub record FitsIn128Bits (high : ℕ) (others : List ComparedType) : Type 0 where
  pub bits : ℕ
  pub within : high < 2 ^ bits
  pub most : bits + sum_by compared_type_width others ≤ 128

pub fits-start : (kinds : List ComparedType) → is_too_wide kinds ≡ false → FitsIn128Bits 0 kinds
fits-start kinds narrow = grind arith

below : (high n p q : ℕ) → high < p → n < q → high * q + n < p * q
below high n p q h l = let more : (high + 1) * q ≤ p * q = mul-le (high + 1) q p q (omega arith) (omega arith) in grind arith

-- and so has the number with the next part behind it
pub fits-more : (high i : ℕ) (r : Range) (kinds : List ComparedType) (d : ComparedType) → i < length kinds
    → r.high < 2 ^ compared_type_width (get_or kinds i d) → FitsIn128Bits high (drop i kinds)
    → FitsIn128Bits (high * 2 ^ compared_type_width (get_or kinds i d) + r.low) (drop (i + 1) kinds)
fits-more high i r kinds d inside narrow fits =
    let w = compared_type_width (get_or kinds i d) in
    let sums = sum_by-drop_more compared_type_width kinds i d inside in
    let most = fits.most in
    let ordered = r.ordered in
    record {
      bits = fits.bits + w;
      within = rw (pow-add 2 fits.bits w) (below high r.low (2 ^ fits.bits) (2 ^ w) fits.within (omega arith));
      most = omega arith;
    }

pub fits-below : (high : ℕ) (ks : List ComparedType) → FitsIn128Bits high ks → high < 2 ^ 128
fits-below high ks fits = grind (arith, fits.bits, fits.most, fits.within, pow_mono)

-- nothing fits before 128 bits or more
pub none-before : (n bits : ℕ) → 128 ≤ bits → n * 2 ^ bits < 2 ^ 128 → 0 ≡ n * 2 ^ bits
none-before zero bits wide small = omega arith
none-before (suc n) bits wide small = let most : 2 ^ 128 ≤ 2 ^ bits = pow_mono wide in absurd (grind arith)
