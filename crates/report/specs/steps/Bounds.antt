-- No counter of a report overflows.
use Rattle.std.specs.Prelude.{◌≡◌, ℕ, ◌+◌, ◌*◌, ◌^◌, ◌≤◌, List, Some, slice_index}
use Rattle.rule_meaning.specs.declared.event.StatementPosition.{StatementPosition}
use Rattle.report.specs.declared.tallies.Tally.{Tally}
use Rattle.report.specs.Representing.{Tallies, tally_at}

-- each counter is of so many packets at most, each of 2^16 bytes at most
abbrev pub AllWithin : ℕ → Tallies → Type 0
AllWithin packets tallies = (at : StatementPosition) (tally : Tally)
    → tally_at tallies at ≡ Some tally → (tally.packets ≤ packets) × (tally.bytes ≤ packets * 2 ^ 16)

-- the bounds after so many records, each of fewer than 2^64 events
pub record IsBounded (records passed local : ℕ) (dropped : List ℕ) (begun : ℕ) (tallies : Tallies) : Type 0
  where
    pub passed_fits : passed ≤ records
    pub local_fits : local ≤ records
    pub dropped_fit : (i : ℕ) → slice_index dropped i ≤ records
    pub begun_fits : begun ≤ records
    pub tallies_fit : AllWithin ((records + 1) * 2 ^ 64) tallies
