-- The most connections that lived at once (own).
use Rattle.std.specs.Prelude.{◌≡◌, ◌≤◌, ◌<◌, ◌-◌, ℕ, List, length, drop}
use Rattle.history.specs.History.{Entry, live_in}
use Rattle.history.specs.Setup.{Setup}
use Rattle.engine.specs.declared.fullest.Fullest.{Fullest}

-- how many connections live behind so many records of a history: Linux's nf_conntrack_count
abbrev pub live_behind : Setup → List Entry → ℕ → ℕ
live_behind setup history count = length (live_in setup (drop (length history - count) history))

-- so many live behind this record, no more behind any, and fewer behind each before it
pub record IsFullest (setup : Setup) (history : List Entry) (fullest : Fullest) : Type 0 where
  pub within : fullest.number ≤ length history
  pub reached : live_behind setup history fullest.number ≡ fullest.connections
  pub most : (count : ℕ) → count ≤ length history → live_behind setup history count ≤ fullest.connections
  pub first : (count : ℕ) → count < fullest.number → live_behind setup history count < fullest.connections
