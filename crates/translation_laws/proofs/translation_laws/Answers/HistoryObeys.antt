-- The laws of NAT: of one entry, which connection it begins or refreshes, how the packet leaves, and the port that it
-- allocates; and of each history. To be read before it: Chains, Paths, Preserved.
use Rattle.translation_laws.proofs.Names.{◌++◌, ◌-◌, All-contains, AllocatedAmong, AreApart, Arrival, Begins, Belonging, Bool, Cause, Confirmed, ConnId}
use Rattle.translation_laws.proofs.Names.{ConnectionChange, ConnectionRef, ConntrackEntry, Contains, Contains-unmap, Creation, CtInfo, Direction, Endpoint}
use Rattle.translation_laws.proofs.Names.{EndsSourceNat, EntriesFollow, Entry, EntryLaws, Err, Event, ExternalSource, Facts, Flags, Found, HasIncoming}
use Rattle.translation_laws.proofs.Names.{HistoryLaws, HoldsMapping, HookResult, HookVerdict, Interface, Invalid, IsAccepted, IsHairpinned, IsHistory}
use Rattle.translation_laws.proofs.Names.{IsHistoryOf, IsTrue, Kind, LeavesWith, List, LivesOn, Mapping, New, NewConnection, Next, NoChange, None, NotFound}
use Rattle.translation_laws.proofs.Names.{Ok, Option, Original, PlantTree, ReceivedPacket, Recorded, Reply, Result, Setup, Some, Touches, TouchesLive}
use Rattle.translation_laws.proofs.Names.{Tracked, TrackedPacket, Tuple, [], after_end, alive_at, and_from, and_parts, ap, arith, arrival_of}
use Rattle.translation_laws.proofs.Names.{begun_in, creation_in}
use Rattle.translation_laws.proofs.Names.{between, both_ways, carried, carried_after, carried_by, carried_with, change_of, change_of_packet, cond}
use Rattle.translation_laws.proofs.Names.{confirmation_by, connection_in, connection_of, connection_ref, does_end, drop, external_source, false, fault_of}
use Rattle.translation_laws.proofs.Names.{filter_passes, may_begin, flags_in, hairpinned, has_ports, have_disjoint_tuples, inbound_of, inl, input_interface}
use Rattle.translation_laws.proofs.Names.{inr, interface_facts, inverse, inverse_kind, is_alive, is_creation, is_ended, is_incoming, is_live}
use Rattle.translation_laws.proofs.Names.{is_same_interface, is_some, is_taken, kind_of, limits_of, live_at_record, lt-ltb, ltb-true, mappings_in, mark_in}
use Rattle.translation_laws.proofs.Names.{moment_after, names_of, names_ports, new_connection_of, none-some, none_not_some, not, not_from_false, or_left}
use Rattle.translation_laws.proofs.Names.{or_right, outcome_by, outgoing, owner, packet_of, payload_of, port_choice_by, port_choice_for, port_choice_in}
use Rattle.translation_laws.proofs.Names.{port_of, protocol, range_of, refl, reply_to, rewritten, same_Some, same_tuple, same_tuple-refl, same_tuple-true}
use Rattle.translation_laws.proofs.Names.{sent_on, some_of_map, source_of, subst, sym, to_internal, touch_of, tracked_connection, tracked_of, transport_of}
use Rattle.translation_laws.proofs.Names.{true, ttl, tuple_of, tuple_with, Ends, given_to, with_source_mapping, with_source_nat, ℕ, ◌∙◌, ◌∷◌, ◌≡◌, ◌≢◌, ◌⊎◌}
use Rattle.conntrack.specs.declared.connection.Connection.{Connection}
use Rattle.history.specs.declared.outcome.Outcome.TheVariants.{Passed}
use Rattle.ip_headers.proofs.Faults.{packet_passes}
use Rattle.ip_headers.specs.declared.view.HeaderFault.{HeaderFault}
use Rattle.pcap_io.specs.Links.{link_of}
use Rattle.pcap_io.specs.declared.link.Link.{Link}
use Rattle.pcap_io.specs.declared.link.LinkCause.{LinkCause}
use Rattle.list_laws.specs.Filters.{has_filter}
use Rattle.nat_mapping.proofs.Lookups.{inbound_finds, port_finds}
use Rattle.std.specs.Prelude.{filter, map}
use Rattle.translation_laws.proofs.Chains.{did_nat_act, none_earlier}
use Rattle.translation_laws.proofs.Paths.{AcceptedWith, EntryCase, HasSource, IsLookedUp, IsNone, IsTranslated, accepted_so, accepted_with, begins, belongs_by}
use Rattle.translation_laws.proofs.Paths.{beside, delivered, dropped_none, dropped_so, entry_case, forwarded_on, is_invalid, passes_accepted, refreshes}
use Rattle.translation_laws.proofs.Paths.{turned_by, unseen_so}
use Rattle.translation_laws.proofs.translation_laws.Goals.{After-no_fault as Laws}
use Rattle.translation_laws.proofs.translation_laws.Answers.Preserved.{HasShapes, IsShaped, Preserved, drafted, ended, found_by, found_one, given_one}
use Rattle.translation_laws.proofs.translation_laws.Answers.Preserved.{inverse_shaped, its_draft, mapping_at, mapping_of_holder, not_behind, parts}
use Rattle.translation_laws.proofs.translation_laws.Answers.Preserved.{ported_suits, preserved, taken_by, tuple_shaped, turned_so}

-- ==== A packet that a record carries has no fault.

abbrev IsFaultless : Result ReceivedPacket Cause → Type 0
IsFaultless (Ok a) = fault_of a.packet ≡ None
IsFaultless (Err cause) = Unit {0}

carried_faultless : Laws → (setup : Setup) (r : Recorded) → IsFaultless (carried setup r)
carried_faultless laws setup r = by_link (link_of r.link r.bytes)
  where
    by_fault : (bytes : List ℕ) (index : ℕ) (o : Option HeaderFault) → fault_of bytes ≡ o → IsFaultless (carried_with index bytes o)
    by_fault bytes index (Some fault) e = tt
    by_fault bytes index None e = laws.no_fault.ensures.faultless (packet_of bytes) (packet_passes bytes (laws.no_fault.ensures.passes bytes e))

    by_interface : (bytes : List ℕ) (o : Option ℕ) → IsFaultless (carried_by bytes o)
    by_interface bytes None = tt
    by_interface bytes (Some index) = by_fault bytes index (fault_of bytes) refl

    by_link : (l : Result Link LinkCause) → IsFaultless (carried_after setup r.bytes l)
    by_link (Err cause) = tt
    by_link (Ok link) = by_interface (drop link.packet r.bytes) (input_interface setup link.interface)

-- ==== What changes and statements tell.

-- a packet that begins a connection does so whatever it ended
abbrev begins_as : Arrival → NewConnection → ConnectionChange
begins_as p d = change_of_packet NotFound p (Confirmed 0 (reply_to d) d.source d.dest)

change_begun : (b : Belonging) → IsNone b → (p : Arrival) (mark : ℕ) (d : NewConnection)
    → change_of_packet b p (Confirmed mark (reply_to d) d.source d.dest) ≡ begins_as p d
change_begun b none p mark d = grind arith

abbrev source_begun : ConnectionChange → Option Mapping
source_begun change = (creation_in change).source

twice : (kind : Kind) → inverse_kind (inverse_kind kind) ≡ kind
twice kind = grind arith

-- whether the statement that gave a source names ports
named_so : (network : PlantTree) (f : Facts) (d : NewConnection) (verdict : HookVerdict) (x : ExternalSource)
    → external_source network f d verdict ≡ Some x → is_some x.ports ≡ names_ports verdict
named_so network f d verdict x e = grind arith

told_some : (named : Bool) (o : Option ℕ) → (port_choice_by named o ≡ None → ⊥) → port_choice_by named o ≡ Some named
told_some named o allocated = grind arith

its_parts : (m : Mapping) (kind : Kind) (external : Endpoint) → m.kind ≡ kind → m.external ≡ external
    → m ≡ mapping_at kind m.internal external
its_parts m kind external k e = grind arith

-- what belongs to a connection that it doesn't remove belongs to some
belongs_some : (h : ConntrackEntry) (ended original : Bool) → ended ≡ false → IsNone (cond ended (Ends h.id) (cond original
    (Found (connection_ref h Original)) (Found (connection_ref h Reply)))) → ⊥
belongs_some h ended original unended none = grind arith

-- the endpoints with which a packet of a connection leaves
leaves_as : (h : ConntrackEntry) (t out : Tuple) (original : Bool) → HasShapes h.original h.reply → is_incoming t h ≡ true
    → same_tuple h.original t ≡ original → out ≡ cond original (inverse h.reply) (inverse h.original)
    → (out.kind ≡ t.kind) × IsShaped out × (same_tuple h.original t ≡ true → out ≡ inverse h.reply)
    × (same_tuple h.reply t ≡ true → out ≡ inverse h.original)
leaves_as h t out original shapes incoming o is =
    grind (arith, twice, inverse_shaped h.reply, inverse_shaped h.original, same_tuple-true h.original t, same_tuple-true h.reply t)

-- ==== The entry of a record.

module _ (laws : Laws) (setup : Setup) (history : List Entry) (r : Recorded) (e : Entry)
    (before : Preserved history (live_at_record setup history r)) where
  abbrev held : List ConntrackEntry
  held = live_at_record setup history r

  abbrev now : ℕ
  now = moment_after history r

  -- ==== What an accepted packet does.

  module _ (a : ReceivedPacket) (arrived : carried setup r ≡ Ok a) (t : Tuple) (p : AcceptedWith setup held now a t e) where
    abbrev b : Belonging
    b = belongs_by held a.packet t

    abbrev flags : Flags
    flags = flags_in (transport_of a.packet)

    abbrev input : Interface
    input = interface_facts setup.network a.interface

    -- the live mappings beside it
    abbrev others : List Mapping
    others = beside held a.packet t

    -- what its look-up made of it: it refreshes its connection, begins one, or does nothing
    abbrev Does : Type 0
    Does = IsLookedUp setup held a b t p.end

    -- with this state at its end
    module _ (info : CtInfo) (is : p.end.info ≡ info) where
      change_is : e.tracked.change
          ≡ change_of_packet b (arrival_of now a.packet t) (confirmation_by info (mark_in p.end.facts.ct))
      change_is = rw is at (ap (λ (x : TrackedPacket). x.change) p.tracked)

      choice_is : e.port_choice ≡ port_choice_for others info
      choice_is = rw is at p.port_choice

      left_as : (interface : ℕ) → e.outcome ≡ Passed interface
          → tuple_of e.packet ≡ tuple_of (rewritten a.packet (change_of info a.packet (ttl a.packet - 1)))
      left_as interface passed = rw is at (ap tuple_of (p.packet ∙ ap (sent_on a.packet p.end.info) (sym p.outcome ∙ passed)))

    refreshed : (place : ConnectionRef) → b ≡ Found place → p.end.info ≡ Tracked (tracked_connection place)
        → e.tracked.change ≡ Touches place.id.0 place.direction
    refreshed place found is = rw found at (change_is _ is)

    begun_so : IsNone b → (d : NewConnection) → p.end.info ≡ New d
        → e.tracked.change ≡ begins_as (arrival_of now a.packet t) d
    begun_so none d is = change_is _ is ∙ change_begun b none (arrival_of now a.packet t) (mark_in p.end.facts.ct) d

    unchanged : p.end.info ≡ Invalid → e.tracked.change ≡ NoChange
    unchanged is = change_is _ is

    -- it leaves with these endpoints
    leaves_between : (out : Tuple) → out.kind ≡ t.kind → IsShaped out
        → tuple_of (rewritten a.packet (between out (Some (ttl a.packet - 1)))) ≡ Some out
    leaves_between out kind shaped =
        let its = some_of_map (λ (one : Kind). tuple_with one a.packet (payload_of a.packet))
        (kind_of (protocol a.packet) (payload_of a.packet)) t p.read in
        laws.rewritten_has_tuple.ensures a.packet out (Some (ttl a.packet - 1)) (subst IsFaultless arrived (carried_faultless laws setup r))
        (its.1 ∙ ap (λ (x : Tuple). Some x.kind) its.2 ∙ ap Some (sym kind)) shaped

    -- ---- the first packet of a connection begins it, where no connection has its tuple but one that it removes

    begins_one : may_begin t.kind ≡ true
        → ((h : ConntrackEntry) → Contains held h → IsTrue (is_incoming t h) → does_end h t flags ≡ true)
        → Does → (c : Creation) × (e.tracked.change ≡ Begins c) × (c.original ≡ t)
    begins_one new free (begins none first n unrefused) = (_, begun_so none n.left n.is, refl)
    begins_one new free (is_invalid none other is) = absurd (other new)
    begins_one new free (refreshes place found is) =
        let f = found_one t held flags place found in
        absurd (both_ways (does_end f.0 t flags) f.3 (free f.0 f.1 f.2))

    -- ---- a packet of a connection refreshes it, and leaves with the inverse of the other direction's tuple

    module _ (h : ConntrackEntry) (among : Contains held h) (incoming : IsTrue (is_incoming t h))
        (unended : does_end h t flags ≡ false) where
      given : b ≡ given_to h t flags
      given = given_one t held flags h before.apart among incoming

      of_it : IsNone b → ⊥
      of_it none = belongs_some h (does_end h t flags) (same_tuple h.original t) unended (subst IsNone given none)

      goes_so : Does → (e.tracked.change ≡ touch_of h t) × ((interface : ℕ) → e.outcome ≡ Passed interface → LeavesWith h t e)
      goes_so (begins none new n free) = absurd (of_it none)
      goes_so (is_invalid none new stayed) = absurd (of_it none)
      goes_so (refreshes place found stayed) =
          let so = found_by h (does_end h t flags) (same_tuple h.original t) place (sym given ∙ found) in
          let out = leaves_as h t (outgoing (tracked_connection place)) (same_tuple h.original t) (before.mapped.shaped h among)
          incoming refl so.3 in (
            refreshed place found stayed ∙ sym so.2,
            λ interface passed.
                let leaves = left_as _ stayed interface passed ∙ leaves_between (outgoing (tracked_connection place)) out.0 out.1 in
                record { original = λ o. leaves ∙ ap Some (out.2 o); reply = λ r. leaves ∙ ap Some (out.3 r) },
          )

    -- ---- a connection that is refreshed was live, and the packet has its tuple

    touches_live : (c : ℕ) (direction : Direction) → e.tracked.change ≡ Touches c direction → Does
        → TouchesLive setup history r e c
    touches_live c direction touches (refreshes place found is) =
        let change = refreshed place found is in
        let f = found_one t held flags place found in
        record {
          a = a;
          t = t;
          comes = record { carries = arrived; tuple = p.read; tracked = p.untouched };
          h = f.0;
          named = ap (λ (x : ConnId). x.0) f.4 ∙ cc (change, touches);
          live = f.1;
          incoming = f.2;
          unended = f.3;
          touched = change ∙ sym f.5;
        }
    touches_live c direction touches (begins none new n free) = absurd (cc (touches, begun_so none n.left n.is))
    touches_live c direction touches (is_invalid none new is) = absurd (cc (touches, unchanged is))

    -- ---- hairpinning

    module _ (interface : ℕ) (passed : e.outcome ≡ Passed interface) (created : IsTrue (is_creation e.tracked.change))
        (ports : has_ports t.kind ≡ true) (m : Mapping) (among : Contains others m) (kind : m.kind ≡ t.kind)
        (external : m.external ≡ t.destination)
        (other : is_same_interface a.interface (owner setup.network m.external.address) ≡ false)
        (untold : did_nat_act e.events ≡ false) where
      -- the mapping, by the packet's tuple
      abbrev own : Mapping
      own = mapping_at t.kind m.internal t.destination

      inbound_is : inbound_of t.kind t.destination others ≡ Some m.internal
      inbound_is =
          let found = (inbound_finds others (ended laws history held before.mapped b).one).all
          (record { kind = m.kind; external = m.external }) m.internal among in
          rw (kind, external) at found

      -- inside the hooks
      abbrev run_inside : NewConnection
      run_inside = to_internal (new_connection_of t) (Some m.internal)

      -- its source is mapped at the external address
      abbrev at_external : ExternalSource
      at_external = record { address = t.destination.address; ports = None }

      none_told : did_nat_act p.end.events ≡ false
      none_told = subst (λ (es : List Event). did_nat_act es ≡ false) p.events untold

      external_is : (x : Option ExternalSource) → HasSource setup others input run_inside x p.end → x ≡ Some at_external
      external_is x (delivered none is) = cc (ap outcome_by (sym none) ∙ sym p.outcome ∙ passed)
      external_is x (forwarded_on asked q later among is) =
          let entered : is_same_interface a.interface (owner setup.network t.destination.address) ≡ false = rw external at other in
          let accepted = q.accepted (none_earlier asked.events later (rw among at none_told)) in
          sym (rw (accepted, q.entered, entered) at is)

      turns_by : Does → IsHairpinned t own others e
      turns_by (refreshes place found is) = absurd (both_ways _ (ap is_creation (refreshed place found is)) created)
      turns_by (is_invalid none new is) = absurd (both_ways _ (ap is_creation (unchanged is)) created)
      turns_by (begins none new n free) =
          let is : turned_by setup others input (new_connection_of t) n.asked ≡ run_inside =
          rw (n.accepted none_told, ports, inbound_is) refl in
          let source = subst (λ (d : NewConnection). HasSource setup others input d n.external p.end) is n.source in
          let mapped = some_of_map (with_source_mapping run_inside at_external)
          (source_of t.kind t.source t.destination.address None others) n.left
          (rw (is, external_is n.external source) at n.drafted) in
          record {
            port = mapped.0;
            chosen = mapped.1;
            began = begun_so none n.left n.is ∙ ap (begins_as (arrival_of now a.packet t)) (sym mapped.2);
            left = left_as _ n.is interface passed
                ∙ ap (λ (d : NewConnection). tuple_of (rewritten a.packet (between d.tuple (Some (ttl a.packet - 1)))))
                (sym mapped.2)
                ∙ leaves_between (hairpinned t own mapped.0) refl (ported_suits t.kind mapped.0 m.internal.port ports);
          }

    -- ---- the port that it allocates, and whether the NAT statement that acted names ports

    module _ (n : IsTranslated setup others input (new_connection_of t) p.end) where
      abbrev behind : NewConnection
      behind = turned_by setup others input (new_connection_of t) n.asked

      -- the result that source NAT took, and what it tells
      who_allocates : (m : Mapping) → n.left.source ≡ Some m → (x : Option ExternalSource) → HasSource setup others input behind x p.end
          → with_source_nat others behind x ≡ Some n.left
          → (end : HookResult) × EndsSourceNat setup e end × (n.left.has_port_range ≡ names_ports end.verdict)
      who_allocates m from None source drafted =
          let none = (turned_so laws setup.network others n.asked.facts t n.asked.verdict).none in
          absurd (cc (none, same_Some behind n.left drafted, from))
      who_allocates m from (Some x) (delivered output none) drafted = absurd (none-some x (sym none))
      who_allocates m from (Some x) (forwarded_on end asked later among is) drafted =
          let r = some_of_map (with_source_mapping behind x)
          (source_of behind.tuple.kind behind.tuple.source x.address (range_of x.ports) others) n.left drafted in (
            end,
            record {
              facts = asked.facts;
              before = asked.before;
              ran = asked.ran;
              later = later;
              among = p.events ∙ among;
            },
            sym (ap (λ (d : NewConnection). d.has_port_range) r.2) ∙ named_so setup.network end.facts behind end.verdict x is,
          )

    allocated_among : Does → (m : Mapping) → source_begun e.tracked.change ≡ Some m → AllocatedAmong setup e others m
    allocated_among (refreshes place found is) m from = absurd (none_not_some _ m (ap source_begun (refreshed place found is)) from)
    allocated_among (is_invalid none new is) m from = absurd (none_not_some _ m (ap source_begun (unchanged is)) from)
    allocated_among (begins none new n free) m from =
        let source : n.left.source ≡ Some m = sym (ap source_begun (begun_so none n.left n.is)) ∙ from in
        let draft = its_draft laws history (after_end b held) (ended laws history held before.mapped b) setup input t new
        (tuple_shaped a.packet t p.read) p.end n in
        let port = port_of m.kind m.internal m.external.address others in
        let tells : e.port_choice ≡ port_choice_by n.left.has_port_range port =
        choice_is _ n.is ∙ ap (port_choice_in others n.left.has_port_range) source in
        let q = who_allocates n m source n.external n.source n.drafted in
        record {
          reused = λ among. tells ∙ ap (port_choice_by n.left.has_port_range)
              ((port_finds others (ended laws history held before.mapped b).one).all
              (record { kind = m.kind; internal = m.internal; address = m.external.address }) m.external.port among);
          allocated = λ absent. (
            q.0,
            q.1,
            tells ∙ told_some n.left.has_port_range port (λ none. absent ((draft.source m source).1
                (sym (choice_is _ n.is) ∙ tells ∙ none))) ∙ ap Some q.2,
          );
        }

    allocated_only : Does → e.port_choice ≢ None → source_begun e.tracked.change ≢ None
    allocated_only h0 told unbegun = grind (arith, choice_is, port_choice_in, begun_so)

  -- ==== Its laws.

  touches_by : (c : ℕ) (direction : Direction) → e.tracked.change ≡ Touches c direction
      → EntryCase setup held now (carried setup r) e → TouchesLive setup history r e c
  touches_by c direction touches (unseen_so is untold other) = absurd (cc (touches, ap (λ (x : TrackedPacket). x.change) is))
  touches_by c direction touches (dropped_so p t read is untold cause dropped) =
      absurd (cc (touches, ap (λ (x : TrackedPacket). x.change) is))
  touches_by c direction touches (accepted_so a arrived t p) = touches_live a arrived t p c direction touches p.state

  allocated_by_case : EntryCase setup held now (carried setup r) e → e.port_choice ≢ None → source_begun e.tracked.change ≢ None
  allocated_by_case (unseen_so is untold other) told = absurd (told untold)
  allocated_by_case (dropped_so p t read is untold cause dropped) told = absurd (told untold)
  allocated_by_case (accepted_so a arrived t p) told = allocated_only a arrived t p p.state told

  entry_laws : LivesOn setup history now → Next setup history r e → EntryLaws setup history r e
  entry_laws lives n =
      let the_case = entry_case setup history r e n in
      let accepted = accepted_with setup history r e n in
      record {
        given = λ h t flags. given_one t held flags h before.apart;
        lives = lives;
        leaves = λ a t comes h among incoming unended.
            let goes = λ (so : IsAccepted e). let p = accepted a t comes so in
            goes_so a comes.carries t p h among incoming unended p.state in
            record {
              touched = λ so. (goes so).0;
              leaves = λ interface passed. (goes (passes_accepted e interface passed)).1 interface passed;
            };
        touches = λ c direction touches. touches_by c direction touches the_case;
        begins = λ a t comes new free so.
            let p = accepted a t comes so in begins_one a comes.carries t p new free p.state;
        dropped = dropped_none setup history r e n;
        hairpins = λ a t comes ports m among kind external other begins untold interface passed.
            let p = accepted a t comes (passes_accepted e interface passed) in
            subst (λ (x : Mapping). IsHairpinned t x (beside held a.packet t) e)
            (sym (its_parts m t.kind t.destination kind external))
            (turns_by a comes.carries t p interface passed begins ports m among kind external other untold p.state);
        allocates = record {
          only = allocated_by_case the_case;
          mapped = λ a t comes m from.
              let p = accepted a t comes (λ cause dropped. none_not_some (source_begun e.tracked.change) m
              (ap source_begun (dropped_none setup history r e n cause dropped)) from) in
              allocated_among a comes.carries t p p.state m from;
        };
      }

-- ==== Each entry of a history extends the history before it.

-- an extended history, without its newest entry
grown_before : (setup : Setup) (history : List Entry) (e : Entry) (records : List Recorded) (first : List Entry)
    → IsHistoryOf setup first records (e ∷ history) → (first ≡ e ∷ history)
    ⊎ ((before : List Recorded) × IsHistoryOf setup first before history × ((r : Recorded) × Next setup history r e))
grown_before setup history e [] first g = inl (sym g)
grown_before setup history e (r ∷ records) first g = elim (grown_before setup history e records (g.0 ∷ first) g.2) [
  | inl same ↦
      let rest : first ≡ history = cc in
      let newest : g.0 ≡ e = cc in inr ([], sym rest, (r, rw (← rest, ← newest) g.1))
  | inr b ↦ inr (r ∷ b.0, (g.0, g.1, b.1), b.2)
]

one_more : (setup : Setup) (records : List Recorded) (first history : List Entry) (r : Recorded) (e : Entry)
    → IsHistoryOf setup first records history → Next setup history r e
    → IsHistoryOf setup first (records ++ r ∷ []) (e ∷ history)
one_more setup [] first history r e g n = (e, rw (← g) n, ap (λ (s : List Entry). e ∷ s) g)
one_more setup (x ∷ records) first history r e g n = (g.0, g.1, one_more setup records (g.0 ∷ first) history r e g.2 n)

pub entries_follow : (setup : Setup) → EntriesFollow setup
entries_follow setup history e = (
  λ is. elim (grown_before setup history e is.records [] is.is_history) [
    | inl none ↦ cc
    | inr b ↦ (record { records = b.0; is_history = b.1 }, b.2)
  ],
  λ so. record {
    records = so.0.records ++ so.1.0 ∷ [];
    is_history = one_more setup so.0.records [] history so.1.0 e so.0.is_history so.1.1;
  },
)

-- ==== A connection that wasn't removed lives while its idle time is below its limit.

their_names : (history : List TrackedPacket) (cs : List ℕ) → names_of (map (λ c. connection_in c history) cs) ≡ cs
their_names history [] = refl
their_names history (c ∷ cs) = ap (λ l. c ∷ l) (their_names history cs)

-- a connection that wasn't ended is listed exactly while its last packet is less than its limit ago
lives_always : (setup : Setup) (history : List Entry) (now : ℕ) → LivesOn setup history now
lives_always setup history now c among unended =
    let tracked = tracked_of history in
    let alive : ℕ → Bool = λ k. is_alive (limits_of setup) k tracked now in
    let ended = is_ended c tracked in
    let live = is_live (limits_of setup) now (connection_in c tracked) in
    rw (their_names tracked (filter alive (begun_in tracked))) (
      λ listed. ltb-true _ _ (and_parts (not ended) live (All-contains (λ (k : ℕ). alive k ≡ true) (filter alive (begun_in tracked)) c
          (filter_passes alive (begun_in tracked)) listed)).1,
      λ lt. has_filter alive (begun_in tracked) c among (and_from (not ended) live (not_from_false ended unended) (lt-ltb _ _ lt)),
    )

-- ==== What is true of connections is true of them as they are listed.

comes_to : (h : ConntrackEntry) (t : Tuple) → HasIncoming (connection_of h) t → is_incoming t h ≡ true
comes_to h t h2 = grind (arith, or_left, same_tuple, same_tuple-refl, or_right)

apart_listed : (held : List ConntrackEntry) → have_disjoint_tuples held ≡ true → AreApart (map connection_of held)
apart_listed [] apart = tt
apart_listed (x ∷ held) apart = (
  λ d t among first later.
      let u = Contains-unmap connection_of held d among in
      both_ways (is_taken t held) (not_behind x held t apart (comes_to x t first))
      (taken_by t held u.0 u.1 (comes_to u.0 t (subst (λ (c : Connection). HasIncoming c t) (sym u.2) later))),
  apart_listed held (parts x held apart).2,
)

listed_mapping : (held : List ConntrackEntry) (c : Connection) (m : Mapping) → Contains (map connection_of held) c
    → HoldsMapping c m → Contains (mappings_in held) m
listed_mapping held c m among holds =
    let u = Contains-unmap connection_of held c among in
    mapping_of_holder held u.0 m u.1 (subst (λ (d : Connection). HoldsMapping d m) (sym u.2) holds)

-- ==== The laws, in each history.

pub history_obeys : Laws → (setup : Setup) (history : List Entry) → IsHistory setup history → HistoryLaws setup history
history_obeys laws setup history is = record {
  live = λ now le.
      let alive = alive_at setup history now in
      let k = preserved laws setup history is now le in
      record {
        listed = refl;
        apart = apart_listed alive k.apart;
        one_internal = λ c d m n a b from other.
            k.mapped.one.one_internal m n (listed_mapping alive c m a from) (listed_mapping alive d n b other);
        one_port = λ c d m n a b from other.
            k.mapped.one.one_port m n (listed_mapping alive c m a (inl from)) (listed_mapping alive d n b (inl other));
        class = λ c m live holds ports latest. k.mapped.class m ports latest;
        chosen = λ c m live holds. (k.mapped.allocated m (listed_mapping alive c m live holds)).1;
        given = λ h t flags. given_one t alive flags h k.apart;
        lives = lives_always setup history now;
      };
  next = λ r e.
      entry_laws laws setup history r e (preserved laws setup history is (moment_after history r) (omega arith))
      (lives_always setup history (moment_after history r));
}
