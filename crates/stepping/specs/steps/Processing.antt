-- The processing of a record in the code's terms: the connections held before and after.
use Rattle.std.specs.Prelude.{◌≡◌, ℕ, ◌+◌, ◌<◌, ◌≤◌, Bool, false, IsTrue, List, [], ◌∷◌, length, map, Option, Some, None}
use Rattle.std.specs.Prelude.{Result, Ok, Err}
use Rattle.ip_headers.specs.declared.tuple.Tuple.{Tuple}
use Rattle.ip_headers.specs.Header.{total_len}
use Rattle.ip_headers.specs.Tuple.{tuple_of}
use Rattle.conntrack.specs.declared.connection.ConnId.{ConnId}
use Rattle.conntrack.specs.declared.connection.ConntrackEntry.{ConntrackEntry}
use Rattle.connection_table.specs.Table.{Table, look_up_slots}
use Rattle.conntrack.specs.ConntrackEntry.{without_id}
use Rattle.conntrack.specs.TableEntries.{IsNoneLater, SlotBounds}
use Rattle.conntrack.specs.Histories.{is_creation}
use Rattle.conntrack.specs.Updates.{Confirmation, after_packet}
use Rattle.rule_meaning.specs.declared.event.Event.{Event}
use Rattle.filter_vm.specs.Machine.{EventsAndTicks}
use Rattle.history.specs.declared.outcome.Cause.{Cause}
use Rattle.history.specs.declared.outcome.Outcome.TheVariants.{Dropped}
use Rattle.history.specs.History.{Entry, live_in}
use Rattle.history.specs.Setup.{Setup, limits_of}
use Rattle.stepping.specs.declared.arrival.IncomingPacket.{IncomingPacket}
use Rattle.stepping.specs.declared.process.RecordResult.{RecordResult}
use Rattle.stepping.specs.Carried.{ReceivedPacket, interface_facts}
use Rattle.stepping.specs.Lookups.{belonging_of, ct_info_by_tuple}
use Rattle.stepping.specs.Paths.{StepResult, on_arrival}
use Rattle.stepping.specs.Confirmations.{confirmation_of}
use Rattle.pcap_io.specs.Pcap.{Recorded}
use Rattle.stepping.specs.Next.{Next, Path, arrival_of, final_state, outcome_of, sent_on, tracked_as, tuple_in}
use Rattle.stepping.specs.Representing as represents
use Rattle.stepping.specs.steps.Confirming.{confirmation_slots}
use Rattle.filter_vm.specs.declared.events.TheConstants.{MOST_EVENTS}

-- before the first record: time 0, no packet, no connections
abbrev pub IsBeforeFirst : Option RecordResult → ℕ → List ℕ → List ConntrackEntry → Type 0
IsBeforeFirst None latest packet held = (latest ≡ 0) × (packet ≡ []) × (held ≡ [])
IsBeforeFirst (Some ended) latest packet held = Unit {0}

-- the invariant of an engine; where it is ready, all that the next record needs is reserved
pub record IsReady (setup : Setup) (connections : Table) (ended : Option RecordResult) (latest : ℕ)
    (ran : EventsAndTicks) (packet : List ℕ) (ready : Bool) : Type 0 where
  pub limited : connections.limits ≡ limits_of setup
  pub first : IsBeforeFirst ended latest packet connections.held
  pub early : latest < 4294967296000000000
  pub few : length ran.events ≤ MOST_EVENTS
  pub later : IsNoneLater latest connections.held
  pub room : IsTrue ready → IsTrue connections.has_room

-- the last record's entry, as shown
abbrev pub newest_in : Option RecordResult → ℕ → EventsAndTicks → List ℕ → Option represents.ShownEntry
newest_in None moment ran packet = None
newest_in (Some ended) moment ran packet = Some (record {
  moment = moment;
  length = ended.length;
  events = ran.events;
  outcome = ended.outcome;
  packet = packet;
  begun = ended.begun;
})

-- ---- the packet of a record

-- a packet and its input interface
abbrev pub received_in : Result IncomingPacket Cause → Result ReceivedPacket Cause
received_in (Ok incoming) =
    Ok (record { interface = incoming.input.now.index; packet = incoming.view.packet.now })
received_in (Err cause) = Err cause

-- ---- the connections held after it

-- after a packet with this tuple and confirmation; a new connection gets this id
abbrev pub held_by : ℕ → ConnId → List ℕ → Option Tuple → Confirmation → List ConntrackEntry
    → List ConntrackEntry
held_by now id p None confirmation held = held
held_by now id p (Some t) confirmation held =
    after_packet (belonging_of held p) id (arrival_of now p t) confirmation held

-- the connections held follow the result of a packet's path
pub record Follows (now : ℕ) (p : List ℕ) (r : StepResult) (begun : Bool) (old new : List ConntrackEntry)
    : Type 0 where
  pub id : ConnId
  pub held : new ≡ held_by now id p (tuple_in p r) (confirmation_of r) old
  pub begins : begun ≡ is_creation (tracked_as now old p (tuple_in p r) (confirmation_of r)).change

-- ---- the slots of their table

-- how many of them the look-up and the confirmation of a packet visit at most
abbrev pub packet_slots : List ConntrackEntry → List ℕ → SlotBounds → ℕ
packet_slots held p most =
    look_up_slots (belonging_of held p) most + confirmation_slots (ct_info_by_tuple held p (tuple_of p)) most

-- ---- the answers

-- a packet took its path
pub record HasProcessedPacket (setup : Setup) (a : ReceivedPacket) (now : ℕ) (old new : List ConntrackEntry)
    (ended : RecordResult) (events : List Event) (packet : List ℕ) : Type 0 where
  pub r : StepResult
  pub path : Path setup old a.packet (on_arrival a.packet (interface_facts setup.network a.interface)) r
  pub follows : Follows now a.packet r ended.begun old new
  pub ends : ended.outcome ≡ outcome_of r
  pub long : ended.length ≡ total_len a.packet
  pub happened : events ≡ (final_state r).events
  pub sent : packet ≡ sent_on a.packet (final_state r).info (outcome_of r)

-- a record was processed with this result, and these bytes are forwarded
abbrev pub HasProcessed : Setup → Result ReceivedPacket Cause → ℕ → List ConntrackEntry
    → List ConntrackEntry → RecordResult → List Event → List ℕ → Type 0
HasProcessed setup (Ok a) now old new ended events packet =
    HasProcessedPacket setup a now old new ended events packet
HasProcessed setup (Err cause) now old new ended events packet = (new ≡ old)
    × (ended ≡ record { outcome = Dropped cause; length = 0; begun = false })
    × (events ≡ []) × (packet ≡ [])

-- the record has an entry after a history, which is shown so, and these connections are the extended history's but for ids
pub record Extends (setup : Setup) (history : List Entry) (r : Recorded) (new : List ConntrackEntry)
    (newest : Option represents.ShownEntry) : Type 0 where
  pub e : Entry
  pub next : Next setup history r e
  pub shown : newest ≡ Some (represents.shown_entry e)
  pub held : map without_id new ≡ map without_id (live_in setup (e ∷ history))
