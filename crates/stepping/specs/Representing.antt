-- When an engine represents a history (own).
use Rattle.std.specs.Prelude.{◌≡◌, ℕ, Bool, List, [], ◌∷◌, length, map, Option, Some, None}
use Rattle.conntrack.specs.declared.connection.ConntrackEntry.{ConntrackEntry}
use Rattle.conntrack.specs.ConntrackEntry.{without_id}
use Rattle.conntrack.specs.Histories.{is_creation}
use Rattle.pcap_io.specs.declared.capture.Record.{Record}
use Rattle.pcap_io.specs.declared.sink.Leaving.{Leaving}
use Rattle.pcap_io.specs.Pcap.{Recorded}
use Rattle.pcap_io.specs.Sll2.{Sent, sent}
use Rattle.rule_meaning.specs.declared.event.Event.{Event}
use Rattle.history.specs.declared.outcome.Outcome.{Outcome}
use Rattle.history.specs.History.{Entry, live_in, sent_by}
use Rattle.rule_check.specs.Checked.{CheckedTree}
use Rattle.history.specs.Setup.{Setup}

-- the part of an entry that an engine shows: all but the connection that it refreshed or removed
pub record ShownEntry : Type 0 where
  pub moment : ℕ
  pub length : ℕ
  pub events : List Event
  pub outcome : Outcome
  pub packet : List ℕ
  pub begun : Bool

abbrev pub shown_entry : Entry → ShownEntry
shown_entry e = record {
  moment = e.tracked.moment;
  length = e.length;
  events = e.events;
  outcome = e.outcome;
  packet = e.packet;
  begun = is_creation e.tracked.change;
}

-- the state of an engine: its configuration, how many records it processed and how many statements it
-- evaluated, the connections held, the last record's entry, and whether all that the next record needs is
-- reserved
pub record EngineState : Type 0 where
  pub setup : Setup
  pub records : ℕ
  pub ticks : ℕ
  pub held : List ConntrackEntry
  pub newest : Option ShownEntry
  pub ready : Bool

-- the configuration of a checked ruleset
abbrev pub setup_of : CheckedTree → Setup
setup_of checked = record { rules = checked.rules; network = checked.network }

abbrev pub newest_of : List Entry → Option ShownEntry
newest_of [] = None
newest_of (e ∷ history) = Some (shown_entry e)

-- it has the history's number of records, shows its newest entry, and holds the connections alive at the
-- time of that, in the order in which they began, under ids of its own
pub record Represents (engine : EngineState) (history : List Entry) : Type 0 where
  pub records : engine.records ≡ length history
  pub newest : engine.newest ≡ newest_of history
  pub held : map without_id engine.held ≡ map without_id (live_in engine.setup history)

-- a lent record
abbrev pub recorded_of : Record → Recorded
recorded_of r = record { moment = r.moment; link = r.link_type; bytes = r.bytes.now }

-- a lent packet
abbrev pub sent_packets : Option Leaving → List Sent
sent_packets None = []
sent_packets (Some leaving) = sent leaving ∷ []

-- the packet that the newest entry sends
abbrev pub sends_of : Option ShownEntry → List Sent
sends_of None = []
sends_of (Some newest) = sent_by newest.outcome newest.moment newest.packet

-- the bytes of the forwarded packet; none where there is none
abbrev pub packet_of : Option ShownEntry → List ℕ
packet_of None = []
packet_of (Some newest) = newest.packet
