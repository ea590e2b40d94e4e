-- Counts of calls by how they ended (own), and writes that stop early or wait.
use Rattle.std.specs.Prelude.{◌≡◌, ◌+◌, ◌-◌, ◌^◌, ◌%◌, ◌++◌, nat_lt, if◌then◌else◌}
use Rattle.std.specs.Prelude.{ℕ, List, Option}
use Rattle.std.specs.Io.KnownBytes.{Appends}
use Rattle.devices.specs.declared.failures.Failures.{Failures}

-- the next number, saturating at 64 bits
abbrev pub one_more : ℕ → ℕ
one_more n = if nat_lt n (2 ^ 64 - 1) then n + 1 else n

-- one more failed call: the number differs from the one before it even where its count stays
abbrev pub one_failure : Failures → Failures
one_failure f = record { count = one_more f.count; wrapped = (f.wrapped + 1) % 2 ^ 64 }

-- known bytes grow by a prefix of these
abbrev pub AppendsPrefix : Option (List ℕ) → Option (List ℕ) → List ℕ → Type 0
AppendsPrefix old new bytes = (part : List ℕ) × (rest : List ℕ) × (bytes ≡ part ++ rest)
    × Appends old new part

-- a writer's known bytes with the buffered ones behind them grow by these
abbrev pub AppendsBuffered : List ℕ → Option (List ℕ) → Option (List ℕ) → List ℕ → List ℕ → Type 0
AppendsBuffered before old new after bytes = (part : List ℕ) × (before ++ bytes ≡ part ++ after)
    × Appends old new part
