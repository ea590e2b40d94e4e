-- The laws of NAT and of the connections alive, in each history.
use Rattle.std.specs.Prelude.{◌≡◌, ◌≢◌, ◌↔◌, ◌⊎◌, ℕ, ◌-◌, ◌<◌, ◌≤◌, Bool, true, false, ◌&&◌, if◌then◌else◌}
use Rattle.std.specs.Prelude.{IsTrue, is_some}
use Rattle.std.specs.Prelude.{List, [], ◌∷◌, ◌++◌, map, Some, None, Ok}
use Rattle.std.specs.List.{Contains, list_any}
use Rattle.box_file.specs.Box.{owner}
use Rattle.ip_headers.specs.declared.tuple.Mapping.{Mapping}
use Rattle.ip_headers.specs.declared.tuple.Tuple.{Tuple}
use Rattle.ip_headers.specs.Header.{transport_of}
use Rattle.ip_headers.specs.Same.{same_tuple}
use Rattle.ip_headers.specs.Tuple.{inverse, tuple_of}
use Rattle.conntrack.specs.declared.belonging.Belonging.{Belonging}
use Rattle.conntrack.specs.declared.belonging.Belonging.TheVariants.{Ends, Found}
use Rattle.conntrack.specs.declared.connection.Connection.{Connection}
use Rattle.ip_headers.specs.declared.tuple.Direction.{Direction}
use Rattle.ip_headers.specs.declared.tuple.Direction.TheVariants.{Original, Reply}
use Rattle.conntrack.specs.declared.connection.Flags.{Flags}
use Rattle.conntrack.specs.declared.connection.ConntrackEntry.{ConntrackEntry}
use Rattle.conntrack.specs.Phases.{is_closing, is_lone_syn}
use Rattle.conntrack.specs.ConntrackEntry.{belongs_in, may_begin, is_incoming, limit_of, connection_ref}
use Rattle.conntrack.specs.Histories.{ConnectionChange, NoChange, Begins, Touches, Creation, creation_in, begun_in}
use Rattle.conntrack.specs.Histories.{connection_in, is_creation, is_ended}
use Rattle.conntrack.specs.Updates.{after_end}
use Rattle.pcap_io.specs.Pcap.{Recorded}
use Rattle.port_pool.specs.Candidates.{same_class_and_parity}
use Rattle.nat_mapping.specs.Mappings.{source_of}
use Rattle.rule_meaning.specs.declared.event.HookVerdict.{HookVerdict}
use Rattle.rule_meaning.specs.declared.event.HookVerdict.TheVariants.{Translated}
use Rattle.rule_meaning.specs.declared.event.NatAction.TheVariants.{Masquerade, Source}
use Rattle.rule_meaning.specs.declared.event.RuleVerdict.{RuleVerdict}
use Rattle.rule_meaning.specs.declared.event.RuleVerdict.TheVariants.{Translate}
use Rattle.rule_meaning.specs.declared.event.Event.{Event}
use Rattle.rule_meaning.specs.declared.event.Event.TheVariants.{TookVerdict, Untracked}
use Rattle.rule_meaning.specs.declared.facts.Facts.{Facts}
use Rattle.rule_meaning.specs.Hooks.{HookResult, Stage}
use Rattle.rule_meaning.specs.declared.stage.HookStage.TheVariants.{PostroutingNat}
use Rattle.history.specs.declared.outcome.Cause.{Cause}
use Rattle.history.specs.declared.outcome.Outcome.TheVariants.{Passed, Dropped}
use Rattle.history.specs.Setup.{Setup, limits_of}
use Rattle.history.specs.History.{Entry, moment_of, tracked_of}
use Rattle.translation.specs.LiveMappings.{mappings_in}
use Rattle.translation.specs.Nat.{has_ports, is_same_interface}
use Rattle.stepping.specs.Carried.{ReceivedPacket, carried}
use Rattle.stepping.specs.Lookups.{flags_in}
use Rattle.stepping.specs.Next.{Next, live_at_record, moment_after}
use Rattle.translation_laws.specs.Histories.{alive_at, latest_choice, listed_at}

-- ---- of the list of live connections

abbrev pub HasIncoming : Connection → Tuple → Type 0
HasIncoming c t = (c.original ≡ t) ⊎ (c.reply ≡ t)

abbrev pub HoldsMapping : Connection → Mapping → Type 0
HoldsMapping c m = (c.source ≡ Some m) ⊎ (c.dest ≡ Some m)

-- no two share a tuple as received (RFC 3022, section 4.1); the two of one connection may be equal
abbrev pub AreApart : List Connection → Type 0
AreApart [] = Unit {0}
AreApart (c ∷ all) =
    ((d : Connection) (t : Tuple) → Contains all d → HasIncoming c t → HasIncoming d t → ⊥) × AreApart all

-- an external endpoint of a kind has one internal endpoint: no port overloading (RFC 4787, REQ-3; RFC 5382,
-- REQ-7)
abbrev pub OneInternal : List Connection → Type 0
OneInternal all =
    (c d : Connection) (m n : Mapping) → Contains all c → Contains all d → HoldsMapping c m
    → HoldsMapping d n
    → m.kind ≡ n.kind → m.external ≡ n.external → m.internal ≡ n.internal

-- endpoint-independent mapping: one internal endpoint has one port at an external address, whatever the
-- destination (RFC 4787, REQ-1; RFC 5382, REQ-1)
abbrev pub OnePort : List Connection → Type 0
OnePort all =
    (c d : Connection) (m n : Mapping) → Contains all c → Contains all d → c.source ≡ Some m
    → d.source ≡ Some n
    → m.kind ≡ n.kind → m.internal ≡ n.internal → m.external.address ≡ n.external.address
    → m.external.port ≡ n.external.port

-- an external port has the range class and the parity of the internal one, unless a port range was given
-- (RFC 4787, REQ-3 and REQ-4)
abbrev pub KeepsClass : List Entry → List Connection → Type 0
KeepsClass history all =
    (c : Connection) (m : Mapping) → Contains all c → HoldsMapping c m → has_ports m.kind ≡ true
    → latest_choice m history ≡ Some false → IsTrue (same_class_and_parity m.internal.port m.external.port)

-- the port of each mapping was allocated by some entry, so the law above covers them all
abbrev pub WasChosen : List Entry → List Connection → Type 0
WasChosen history all =
    (c : Connection) (m : Mapping) → Contains all c → HoldsMapping c m → latest_choice m history ≢ None

-- ---- of the connections alive at a time after a history

-- a lone SYN in direction original removes a closing connection
abbrev pub does_end : ConntrackEntry → Tuple → Flags → Bool
does_end h t flags = same_tuple h.original t && (is_lone_syn flags && is_closing h)

-- what a packet with one of its tuples belongs to, were it the only connection
abbrev pub given_to : ConntrackEntry → Tuple → Flags → Belonging
given_to h t flags =
    if does_end h t flags then Ends h.id
    else (if same_tuple h.original t then Found (connection_ref h Original)
    else Found (connection_ref h Reply))

-- a packet belongs to the connection that has its tuple, and to no other
abbrev pub GivenToOne : List ConntrackEntry → Type 0
GivenToOne alive =
    (h : ConntrackEntry) (t : Tuple) (flags : Flags) → Contains alive h → IsTrue (is_incoming t h)
    → belongs_in alive t flags ≡ given_to h t flags

abbrev pub names_of : List ConntrackEntry → List ℕ
names_of held = map (λ h. h.id.0) held

-- a connection that no lone SYN removed is alive while its idle time is below its limit, and no longer
abbrev pub LivesOn : Setup → List Entry → ℕ → Type 0
LivesOn setup history now =
    (c : ℕ) → Contains (begun_in (tracked_of history)) c → is_ended c (tracked_of history) ≡ false
    → Contains (names_of (alive_at setup history now)) c
    ↔ (now - (connection_in c (tracked_of history)).last
    < limit_of (limits_of setup) (connection_in c (tracked_of history)))

-- ---- of the entry of a record after a history

-- a `notrack` took effect
abbrev pub did_untrack : Event → Bool
did_untrack Untracked = true
did_untrack other = false

-- the record carries this packet, which has this tuple, and no `notrack` took effect on its way
pub record ComesWith (setup : Setup) (r : Recorded) (e : Entry) (a : ReceivedPacket) (t : Tuple) : Type 0 where
  pub carries : carried setup r ≡ Ok a
  pub tuple : tuple_of a.packet ≡ Some t
  pub tracked : list_any did_untrack e.events ≡ false

-- it isn't dropped: it is forwarded, or delivered to the box
abbrev pub IsAccepted : Entry → Type 0
IsAccepted e = (cause : Cause) → e.outcome ≢ Dropped cause

-- what a packet with this tuple does to this connection when it refreshes it
abbrev pub touch_of : ConntrackEntry → Tuple → ConnectionChange
touch_of h t = if same_tuple h.original t then Touches h.id.0 Original else Touches h.id.0 Reply

-- it leaves with the inverse of the other direction's tuple
pub record LeavesWith (h : ConntrackEntry) (t : Tuple) (e : Entry) : Type 0 where
  pub original : same_tuple h.original t ≡ true → tuple_of e.packet ≡ Some (inverse h.reply)
  pub reply : same_tuple h.reply t ≡ true → tuple_of e.packet ≡ Some (inverse h.original)

-- if it is accepted it refreshes the connection, and if it is forwarded it leaves translated
pub record GoesWith (h : ConntrackEntry) (t : Tuple) (e : Entry) : Type 0 where
  pub touched : IsAccepted e → e.tracked.change ≡ touch_of h t
  pub leaves : (interface : ℕ) → e.outcome ≡ Passed interface → LeavesWith h t e

-- a packet with a tuple of a live connection that it doesn't remove does so
abbrev pub LeavesTranslated : Setup → List Entry → Recorded → Entry → Type 0
LeavesTranslated setup history r e =
    (a : ReceivedPacket) (t : Tuple) → ComesWith setup r e a t → (h : ConntrackEntry)
    → Contains (live_at_record setup history r) h → IsTrue (is_incoming t h)
    → does_end h t (flags_in (transport_of a.packet)) ≡ false → GoesWith h t e

-- the connection of this number was live, and the packet, which has its tuple and doesn't remove it,
-- refreshed it
pub record TouchesLive (setup : Setup) (history : List Entry) (r : Recorded) (e : Entry) (c : ℕ) : Type 0 where
  pub a : ReceivedPacket
  pub t : Tuple
  pub comes : ComesWith setup r e a t
  pub h : ConntrackEntry
  pub named : h.id.0 ≡ c
  pub live : Contains (live_at_record setup history r) h
  pub incoming : IsTrue (is_incoming t h)
  pub unended : does_end h t (flags_in (transport_of a.packet)) ≡ false
  pub touched : e.tracked.change ≡ touch_of h t

-- only such a connection is refreshed
abbrev pub TouchesItsOwn : Setup → List Entry → Recorded → Entry → Type 0
TouchesItsOwn setup history r e =
    (c : ℕ) (direction : Direction) → e.tracked.change ≡ Touches c direction
    → TouchesLive setup history r e c

-- an accepted packet of a kind that begins connections, whose tuple no live connection has but one that it
-- removes, begins a connection with that tuple
abbrev pub BeginsOne : Setup → List Entry → Recorded → Entry → Type 0
BeginsOne setup history r e =
    (a : ReceivedPacket) (t : Tuple) → ComesWith setup r e a t → may_begin t.kind ≡ true
    → ((h : ConntrackEntry) → Contains (live_at_record setup history r) h → IsTrue (is_incoming t h)
    → does_end h t (flags_in (transport_of a.packet)) ≡ true)
    → IsAccepted e → (b : Creation) × (e.tracked.change ≡ Begins b) × (b.original ≡ t)

-- a dropped packet neither begins nor refreshes a connection
abbrev pub CountsForNone : Entry → Type 0
CountsForNone e = (cause : Cause) → e.outcome ≡ Dropped cause → e.tracked.change ≡ NoChange

abbrev pub is_translation : RuleVerdict → Bool
is_translation (Translate t) = true
is_translation other = false

-- a NAT statement took effect
abbrev pub did_translate : Event → Bool
did_translate (TookVerdict rule decision) = is_translation decision
did_translate other = false

-- the live mappings at a packet's destination NAT: not those of a connection that its own lone SYN removed
abbrev pub mappings_before : Setup → List Entry → Recorded → Tuple → Flags → List Mapping
mappings_before setup history r t flags =
    let live = live_at_record setup history r in
    mappings_in (after_end (belongs_in live t flags) live)

-- the tuple of a hairpinned packet: from this port of the mapping's external address to its internal
-- endpoint
abbrev pub hairpinned : Tuple → Mapping → ℕ → Tuple
hairpinned t m port =
    record {
      kind = t.kind;
      source = record { address = m.external.address; port = port };
      destination = m.internal;
    }

-- a packet with tuple t was hairpinned by mapping m: its tuple, and the mappings of its connection
pub record IsHairpinned (t : Tuple) (m : Mapping) (mappings : List Mapping) (e : Entry) : Type 0 where
  -- the port that its source has, or gets, at that address
  pub port : ℕ
  pub chosen : source_of t.kind t.source m.external.address None mappings ≡ Some port
  pub began : e.tracked.change ≡ Begins (record {
    original = t;
    reply = inverse (hairpinned t m port);
    source = Some (record {
      kind = t.kind;
      internal = t.source;
      external = record { address = m.external.address; port = port };
    });
    dest = Some m;
  })
  pub left : tuple_of e.packet ≡ Some (hairpinned t m port)

-- hairpinning (RFC 4787, REQ-9; RFC 5382, REQ-8): a packet to the external endpoint of a live mapping of
-- its kind, from another interface than the owner of that address, that begins a connection without a NAT
-- statement and is forwarded
abbrev pub Hairpins : Setup → List Entry → Recorded → Entry → Type 0
Hairpins setup history r e =
    (a : ReceivedPacket) (t : Tuple) → ComesWith setup r e a t → has_ports t.kind ≡ true
    → (m : Mapping) → Contains (mappings_before setup history r t (flags_in (transport_of a.packet))) m
    → m.kind ≡ t.kind → m.external ≡ t.destination
    → is_same_interface a.interface (owner setup.network m.external.address) ≡ false
    → IsTrue (is_creation e.tracked.change) → list_any did_translate e.events ≡ false
    → (interface : ℕ) → e.outcome ≡ Passed interface
    → IsHairpinned t m (mappings_before setup history r t (flags_in (transport_of a.packet))) e

-- ---- the port of a new mapping

-- the nat chains ended with a NAT statement that names ports
abbrev pub names_ports : HookVerdict → Bool
names_ports (Translated (Source address ports)) = is_some ports
names_ports (Translated (Masquerade ports)) = is_some ports
names_ports _ = false

-- on the entry's path the nat chains of postrouting gave this result
pub record EndsSourceNat (setup : Setup) (e : Entry) (end : HookResult) : Type 0 where
  pub facts : Facts
  pub before : List Event
  pub ran : Stage PostroutingNat setup.network setup.rules facts before end
  pub later : List Event
  pub among : e.events ≡ end.events ++ later

-- the mapping of the entry's connection, among these live ones: a live one is reused (RFC 4787, REQ-1). For
-- another one a port is allocated, and the entry tells whether the statement that acted names ports
pub record AllocatedAmong (setup : Setup) (e : Entry) (live : List Mapping) (m : Mapping) : Type 0 where
  pub reused : Contains live m → e.port_choice ≡ None
  pub allocated : (Contains live m → ⊥)
      → (end : HookResult) × EndsSourceNat setup e end × (e.port_choice ≡ Some (names_ports end.verdict))

-- an entry tells of an allocation for the mapping of the source of a connection that it begins, and for no
-- other
pub record AllocatesPort (setup : Setup) (history : List Entry) (r : Recorded) (e : Entry) : Type 0 where
  pub only : e.port_choice ≢ None → (creation_in e.tracked.change).source ≢ None
  pub mapped : (a : ReceivedPacket) (t : Tuple) → ComesWith setup r e a t → (m : Mapping)
      → (creation_in e.tracked.change).source ≡ Some m
      → AllocatedAmong setup e (mappings_before setup history r t (flags_in (transport_of a.packet))) m

-- ---- together

-- of the connections alive at a time after a history, and of their list
pub record LiveLaws (setup : Setup) (history : List Entry) (now : ℕ) (all : List Connection) : Type 0 where
  -- exactly those alive, in the order in which they began
  pub listed : all ≡ listed_at setup history now
  pub apart : AreApart all
  pub one_internal : OneInternal all
  pub one_port : OnePort all
  pub class : KeepsClass history all
  pub chosen : WasChosen history all
  pub given : GivenToOne (alive_at setup history now)
  pub lives : LivesOn setup history now

-- of the entry of a record after a history, and of the connections alive then
pub record EntryLaws (setup : Setup) (history : List Entry) (r : Recorded) (e : Entry) : Type 0 where
  pub given : GivenToOne (live_at_record setup history r)
  pub lives : LivesOn setup history (moment_after history r)
  pub leaves : LeavesTranslated setup history r e
  pub touches : TouchesItsOwn setup history r e
  pub begins : BeginsOne setup history r e
  pub dropped : CountsForNone e
  pub hairpins : Hairpins setup history r e
  pub allocates : AllocatesPort setup history r e

-- of a history: at its last time, at each later one, and of each record that extends it
pub record HistoryLaws (setup : Setup) (history : List Entry) : Type 0 where
  pub live : (now : ℕ) → moment_of history ≤ now → LiveLaws setup history now (listed_at setup history now)
  pub next : (r : Recorded) (e : Entry) → Next setup history r e → EntryLaws setup history r e
