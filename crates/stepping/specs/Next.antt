-- What a forwarding box does with a record: the entry that extends a history.
use Rattle.std.specs.Prelude.{◌≡◌, ℕ, ◌-◌, max, List, [], ◌∷◌, Option, Some, None, Result, Ok, Err}
use Rattle.ip_headers.specs.declared.tuple.Tuple.{Tuple}
use Rattle.ip_headers.specs.Header.{total_len, transport_of, ttl}
use Rattle.rewrite.specs.Rewritten.{rewritten}
use Rattle.conntrack.specs.declared.connection.ConntrackEntry.{ConntrackEntry}
use Rattle.conntrack.specs.Histories.{live_list}
use Rattle.conntrack.specs.Histories as connections
use Rattle.conntrack.specs.Updates as updates
use Rattle.conntrack.specs.Updates.{Arrival, Confirmation, entry_at}
use Rattle.pcap_io.specs.Pcap.{Recorded}
use Rattle.rule_meaning.specs.declared.facts.Interface.{Interface}
use Rattle.rule_meaning.specs.declared.stage.HookStage.TheVariants as stages
use Rattle.history.specs.declared.outcome.Cause.{Cause}
use Rattle.history.specs.declared.outcome.Outcome.{Outcome}
use Rattle.history.specs.declared.outcome.Outcome.TheVariants.{Passed, Local, Dropped}
use Rattle.history.specs.Setup.{Setup, limits_of}
use Rattle.history.specs.History.{Entry, moment_of, tracked_of}
use Rattle.translation.specs.declared.ct_info.CtInfo.{CtInfo}
use Rattle.translation.specs.CtInfos.{change_of, ct_facts_of}
use Rattle.translation.specs.LiveMappings.{mappings_in}
use Rattle.stepping.specs.Carried.{ReceivedPacket, carried, interface_facts}
use Rattle.stepping.specs.Lookups.{belonging_of, flags_in, looked_up_info, lookup_tuple_of, others_beside}
use Rattle.stepping.specs.Lookups.{others_in}
use Rattle.stepping.specs.Paths.{PathState, StepResult, Continue, Drop, Step, ◌⨾◌, Hooks, RunsStage}
use Rattle.stepping.specs.Paths.{on_arrival}
use Rattle.stepping.specs.Confirmations.{Confirm, confirmation_of, port_choice_of}

-- ---- the path of a packet

-- its state by the look-up, which rules read from then on
abbrev pub with_info : CtInfo → PathState → PathState
with_info info s = record s { facts = record s.facts { ct = ct_facts_of info }; info = info }

-- the connection look-up, among the live connections
abbrev pub LookUp : List ConntrackEntry → List ℕ → Step
LookUp live p s r = r ≡ Continue (with_info (looked_up_info s.facts.ct live p) s)

-- the hooks, then the confirmation, beside these other connections
abbrev pub HooksAndConfirm : Setup → List ConntrackEntry → Step
HooksAndConfirm setup others = Hooks setup (mappings_in others) ⨾ Confirm others

abbrev pub AfterLookUp : Setup → List ConntrackEntry → List ℕ → Step
AfterLookUp setup live p s r = HooksAndConfirm setup (others_beside s.info live p) s r

-- filter chains of a priority up to that of the look-up (NF_IP_PRI_CONNTRACK, -200) come before it: what they
-- drop isn't looked up. At -200 itself that is (own)
abbrev pub Path : Setup → List ConntrackEntry → List ℕ → Step
Path setup live p = RunsStage setup stages.PreroutingRaw ⨾ LookUp live p ⨾ AfterLookUp setup live p

-- ---- the entry

abbrev pub final_state : StepResult → PathState
final_state (Continue s) = s
final_state (Drop cause s) = s

-- the tuple with which it was looked up
abbrev pub tuple_in : List ℕ → StepResult → Option Tuple
tuple_in p r = lookup_tuple_of (final_state r).info p

-- a packet with this tuple and its flags, at this time
abbrev pub arrival_of : ℕ → List ℕ → Tuple → Arrival
arrival_of now p t = record { tuple = t; flags = flags_in (transport_of p); moment = now }

-- what the packet did to connections
abbrev pub tracked_as : ℕ → List ConntrackEntry → List ℕ → Option Tuple → Confirmation
    → connections.TrackedPacket
tracked_as now live p None confirmation = entry_at now
tracked_as now live p (Some t) confirmation =
    updates.tracked_packet (belonging_of live p) (arrival_of now p t) confirmation

-- forwarded where it has an output interface
abbrev pub outcome_by : Option Interface → Outcome
outcome_by None = Local
outcome_by (Some output) = Passed output.index

abbrev pub outcome_of : StepResult → Outcome
outcome_of (Continue s) = outcome_by s.facts.output
outcome_of (Drop cause s) = Dropped cause

-- the packet as forwarded: with its tuple after NAT, and its TTL decremented (RFC 1812, section 5.3.1)
abbrev pub sent_on : List ℕ → CtInfo → Outcome → List ℕ
sent_on p info (Passed interface) = rewritten p (change_of info p (ttl p - 1))
sent_on p info _ = []

abbrev pub entry_of_packet : ℕ → List ConntrackEntry → List ℕ → StepResult → Entry
entry_of_packet now live p r = record {
  tracked = tracked_as now live p (tuple_in p r) (confirmation_of r);
  lookup_tuple = tuple_in p r;
  port_choice = port_choice_of (others_in live p) r;
  length = total_len p;
  events = (final_state r).events;
  outcome = outcome_of r;
  packet = sent_on p (final_state r).info (outcome_of r);
}

-- a record without a packet is dropped for its cause, without events
abbrev pub entry_without_packet : ℕ → Cause → Entry
entry_without_packet now cause = record {
  tracked = entry_at now;
  lookup_tuple = None;
  port_choice = None;
  length = 0;
  events = [];
  outcome = Dropped cause;
  packet = [];
}

-- the entry of a record at this time, among the live connections
abbrev pub EntryOf : Setup → List ConntrackEntry → ℕ → Result ReceivedPacket Cause → Entry → Type 0
EntryOf setup live now (Err cause) e = e ≡ entry_without_packet now cause
EntryOf setup live now (Ok a) e = (r : StepResult)
    × Path setup live a.packet (on_arrival a.packet (interface_facts setup.network a.interface)) r
    × (e ≡ entry_of_packet now live a.packet r)

-- the time of a record is the greatest of its own and all earlier ones (own)
abbrev pub moment_after : List Entry → Recorded → ℕ
moment_after history r = max (moment_of history) r.moment

-- the connections alive then
abbrev pub live_at_record : Setup → List Entry → Recorded → List ConntrackEntry
live_at_record setup history r = live_list (limits_of setup) (tracked_of history) (moment_after history r)

-- the entry of a record after a history; all that is known of connections comes from the history's entries
pub record Next (setup : Setup) (history : List Entry) (r : Recorded) (e : Entry) : Type 0 where
  pub entry : EntryOf setup (live_at_record setup history r) (moment_after history r) (carried setup r) e

-- ---- histories

-- a history extended by the entries of these records, one after another
abbrev pub IsHistoryOf : Setup → List Entry → List Recorded → List Entry → Type 0
IsHistoryOf setup history [] after = after ≡ history
IsHistoryOf setup history (r ∷ rs) after = (e : Entry) × Next setup history r e
    × IsHistoryOf setup (e ∷ history) rs after
