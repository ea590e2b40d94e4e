-- Overlaying sorted intervals: where an upper and a lower interval overlap, the upper one's value wins.
use Rattle.std.specs.Prelude.{◌≡◌, ℕ, ◌+◌, ◌<◌, ◌≤◌, List, [], ◌∷◌, ◌++◌, All}
use Rattle.set_intervals.specs.declared.range.Range.{Range}
use Rattle.set_intervals.specs.Pairs.{first_value}

-- at each number the first pair that contains it has the same value in both lists
abbrev pub SameFirstValues : {V : Type 0} → List (Range × V) → List (Range × V) → Type 0
SameFirstValues {V} xs ys = (key : ℕ) → first_value xs key ≡ first_value ys key

-- each range ends before the number
abbrev pub EndsBefore : {V : Type 0} → List (Range × V) → ℕ → Type 0
EndsBefore {V} xs n = All (λ (p : Range × V). p.0.high < n) xs

-- the ranges ascend without overlap, from the number on
abbrev pub IsRising : {V : Type 0} → ℕ → List (Range × V) → Type 0
IsRising n [] = Unit {0}
IsRising n (p ∷ ps) = (n ≤ p.0.low) × IsRising (p.0.high + 1) ps

-- the ranges ascend without overlap, above all those of the first list
abbrev pub Follows : {V : Type 0} → List (Range × V) → List (Range × V) → Type 0
Follows done [] = Unit {0}
Follows done (p ∷ ps) = EndsBefore done p.0.low × IsRising (p.0.high + 1) ps

-- below `n` the new list is the old one with the pair appended; from `n` on it is the old one
pub record AddsBelow {V : Type 0} (old : List (Range × V)) (r : Range) (v : V) (n : ℕ)
    (new : List (Range × V)) : Type 0 where
  pub lesser : (key : ℕ) → key < n → first_value new key ≡ first_value (old ++ (r, v) ∷ []) key
  pub others : (key : ℕ) → n ≤ key → first_value new key ≡ first_value old key
