-- How the calls of a counted reader or writer are counted, by their results (own).
use Rattle.std.specs.Prelude.{◌≡◌, ◌==◌, ◌&&◌, nat_lt, if◌then◌else◌}
use Rattle.std.specs.Prelude.{ℕ, List, length, Result, MatchResult}
use Rattle.devices.specs.declared.failures.Failures.{Failures}
use Rattle.devices.specs.Counting.{one_failure, one_more}

-- a failed read or flush is counted
abbrev pub CountsFailure : {A E : Type 0} → Result A E → Failures → Failures → Type 0
CountsFailure r before after = MatchResult r (λ _. after ≡ before) (λ _. after ≡ one_failure before)

-- a write that fails, or that takes none of some bytes, is counted
abbrev pub CountsWrite : {E : Type 0} → Result ℕ E → List ℕ → Failures → Failures → Type 0
CountsWrite r buf before after =
    MatchResult r (λ n. after ≡ (if (n == 0) && nat_lt 0 (length buf) then one_failure before
    else before)) (λ _. after ≡ one_failure before)

-- so is a write that doesn't fail: one that takes some bytes, or has none to take
abbrev pub CountsWritten : {E : Type 0} → Result ℕ E → List ℕ → ℕ → ℕ → Type 0
CountsWritten r buf before after =
    MatchResult r (λ n. after ≡ (if (n == 0) && nat_lt 0 (length buf) then before else one_more before))
    (λ _. after ≡ before)

-- so is a flush that doesn't fail
abbrev pub CountsFlushed : {A E : Type 0} → Result A E → ℕ → ℕ → Type 0
CountsFlushed r before after = MatchResult r (λ _. after ≡ one_more before) (λ _. after ≡ before)
