-- Pieces whose numbers have at most 64 bits.
use Rattle.std.proofs.Common.{◌≡◌, ℕ, suc, ◌^◌, ◌<◌, List, [], ◌∷◌, map, refl, arith}
use Rattle.std.specs.List.Sorted.{IsNonDecreasingBy}
use Rattle.set_intervals.specs.declared.range.Range.{Range}
use Rattle.set_intervals.specs.steps.Pieces.{AreShort, IsSeparate, highs, low_half}
use Rattle.set_intervals.proofs.PieceLaws.{highs_rise}

pub short_half : (n : ℕ) → n < 2 ^ 64 → low_half n ≡ n
short_half n lt = omega (arith, lt)

-- the low halves of the high ends are the high ends
pub halves : {V : Type 0} (xs : List (Range × V)) → AreShort xs → map (λ (p : Range × V). low_half p.0.high) xs ≡ highs xs
halves [] short = refl
halves (x ∷ xs) short = grind (arith, short_half, short 0 x (omega arith), halves xs (λ i d lt. short (suc i) d (omega (arith, lt))))

pub halves_rise : {V : Type 0} (xs : List (Range × V)) → IsSeparate xs → AreShort xs
    → IsNonDecreasingBy (λ (p : Range × V). low_half p.0.high) xs
halves_rise xs separate short i j d le lt =
    omega (arith, highs_rise xs separate i j d le lt, short_half _ (short i d (omega (arith, le, lt))), short_half _ (short j d lt))
