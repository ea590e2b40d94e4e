-- Histories and their live connections, for the laws of NAT (own).
use Rattle.std.specs.Prelude.{◌↔◌, ℕ, Bool, false, List, [], ◌∷◌, map, if◌then◌else◌, Option, Some, None}
use Rattle.ip_headers.specs.declared.tuple.Mapping.{Mapping}
use Rattle.conntrack.specs.declared.connection.Connection.{Connection}
use Rattle.conntrack.specs.declared.connection.ConntrackEntry.{ConntrackEntry}
use Rattle.conntrack.specs.ConntrackEntry.{connection_of}
use Rattle.conntrack.specs.Histories.{creation_in, live_list}
use Rattle.nat_mapping.specs.Mappings.{same_mapping}
use Rattle.pcap_io.specs.Pcap.{Recorded}
use Rattle.history.specs.Setup.{Setup, limits_of}
use Rattle.history.specs.History.{Entry, tracked_of}
use Rattle.stepping.specs.Next.{IsHistoryOf, Next}

-- the history of some records, from the first one on
pub record IsHistory (setup : Setup) (history : List Entry) : Type 0 where
  pub records : List Recorded
  pub is_history : IsHistoryOf setup [] records history

-- each entry extends the history before it; so a law of extensions holds of each entry, and a law of
-- histories of each earlier one
abbrev pub EntriesFollow : Setup → Type 0
EntriesFollow setup =
    (history : List Entry) (e : Entry)
    → IsHistory setup (e ∷ history) ↔ (IsHistory setup history × ((r : Recorded) × Next setup history r e))

-- the connections alive at a time, in the order in which they began; and as they are listed
abbrev pub alive_at : Setup → List Entry → ℕ → List ConntrackEntry
alive_at setup history now = live_list (limits_of setup) (tracked_of history) now

abbrev pub listed_at : Setup → List Entry → ℕ → List Connection
listed_at setup history now = map connection_of (alive_at setup history now)

-- ---- when the port of a mapping was allocated

abbrev pub is_mapping : Mapping → Option Mapping → Bool
is_mapping m None = false
is_mapping m (Some n) = same_mapping m n

-- where this entry allocated the mapping's port: whether a port range was given
abbrev pub choice_in : Mapping → Entry → Option Bool
choice_in m e = if is_mapping m (creation_in e.tracked.change).source then e.port_choice else None

abbrev pub or_earlier : Option Bool → Option Bool → Option Bool
or_earlier None earlier = earlier
or_earlier (Some has_port_range) earlier = Some has_port_range

-- the same of the latest entry that allocated it
abbrev pub latest_choice : Mapping → List Entry → Option Bool
latest_choice m [] = None
latest_choice m (e ∷ history) = or_earlier (choice_in m e) (latest_choice m history)
