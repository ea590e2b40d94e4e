-- A history: the entries of all records so far, the newest first (own). No entry is ever removed.
use Rattle.std.specs.Prelude.{◌≡◌, ℕ, Bool, List, [], ◌∷◌, ◌++◌, length, map, Option, Some, None}
use Rattle.std.specs.List.{flat_map}
use Rattle.ip_headers.specs.declared.tuple.Tuple.{Tuple}
use Rattle.conntrack.specs.declared.connection.ConntrackEntry.{ConntrackEntry}
use Rattle.conntrack.specs.Histories as connections
use Rattle.conntrack.specs.Histories.{is_creation, live_list}
use Rattle.pcap_io.specs.Sll2.{Sent, sll2}
use Rattle.rule_meaning.specs.declared.event.Event.{Event}
use Rattle.history.specs.declared.entry.Entry as views
use Rattle.history.specs.declared.outcome.Outcome.{Outcome}
use Rattle.history.specs.declared.outcome.Outcome.TheVariants.{Passed}
use Rattle.history.specs.Setup.{Setup, limits_of}

-- the entry of one record
pub record Entry : Type 0 where
  -- its time, and what it did to connections
  pub tracked : connections.TrackedPacket
  -- the tuple as received, with which its connection was looked up; none where nothing was looked up
  pub lookup_tuple : Option Tuple
  -- where a port was allocated for the connection that the packet began: whether a port range was given
  pub port_choice : Option Bool
  -- the packet's total length as received, in bytes; 0 where the record carries none
  pub length : ℕ
  -- the events of the rules' evaluation, in order
  pub events : List Event
  -- the outcome
  pub outcome : Outcome
  -- the bytes of the packet that was forwarded; none otherwise
  pub packet : List ℕ

-- the part of a history that conntrack reads
abbrev pub tracked_of : List Entry → List connections.TrackedPacket
tracked_of history = map (λ e. e.tracked) history

-- the time of the newest entry; 0 before any
abbrev pub moment_of : List Entry → ℕ
moment_of history = connections.moment_of (tracked_of history)

-- the connections alive at that time, in the order in which they began
abbrev pub live_in : Setup → List Entry → List ConntrackEntry
live_in setup history = live_list (limits_of setup) (tracked_of history) (moment_of history)

-- the entries, the oldest first
abbrev pub in_order : List Entry → List Entry
in_order [] = []
in_order (e ∷ history) = in_order history ++ e ∷ []

abbrev pub sent_by : Outcome → ℕ → List ℕ → List Sent
sent_by (Passed interface) moment packet =
    record { moment = moment; interface = interface; packet = packet } ∷ []
sent_by _ moment packet = []

-- the packet that an entry sends
abbrev pub sends : Entry → List Sent
sends e = sent_by e.outcome e.tracked.moment e.packet

-- the capture that a history writes
abbrev pub capture_text : List Entry → List ℕ
capture_text history = sll2 (flat_map sends (in_order history))

-- ---- the entry that an engine lends

-- its number is the number of all entries
pub record IsEntry (e : Entry) (history : List Entry) (entry_view : views.Entry) : Type 0 where
  pub number : entry_view.number ≡ length (e ∷ history)
  pub bytes : entry_view.length ≡ e.length
  pub events : entry_view.events.now ≡ e.events
  pub outcome : entry_view.outcome ≡ e.outcome
  pub begun : entry_view.begun ≡ is_creation e.tracked.change

-- the newest entry is lent, and none of an empty history
abbrev pub IsNewest : Option views.Entry → List Entry → Type 0
IsNewest None [] = Unit {0}
IsNewest (Some entry_view) (e ∷ history) = IsEntry e history entry_view
IsNewest _ _ = ⊥
