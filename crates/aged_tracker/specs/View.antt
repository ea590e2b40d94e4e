-- What an `AgedTracker` shows to contracts (own).
use Rattle.std.specs.Prelude.{ℕ, Bool, List}
use Rattle.conntrack.specs.declared.connection.ConntrackEntry.{ConntrackEntry}
use Rattle.box_file.specs.declared.limits.Limits.{Limits}

-- its timeouts, its entries in the order of their creation, and whether memory for one more is reserved; where
-- the next packet's entry likely is, and whether that was so of the last packet that had one
pub record TrackerView : Type 0 where
  pub limits : Limits
  pub held : List ConntrackEntry
  pub room : Bool
  pub likely : ℕ
  pub was_likely : Bool
