-- What a run records of connections fits: so do the connections that its packets find.
use Rattle.std.specs.Prelude.{◌^◌, ◌<◌, ◌≤◌, IfSome, Result, Ok, Err, drop}
use Rattle.std.proofs.Common.{◌≡◌, ◌∙◌, ℕ, Bool, true, false, List, [], ◌∷◌, Option, Some, None, lit<, refl, ap, subst, sym}
use Rattle.std.proofs.lemmas.List.Elements.{All-drop, All-take}
use Rattle.box_file.specs.Box.{name_of}
use Rattle.ip_headers.specs.declared.tuple.Tuple.{Tuple}
use Rattle.ip_headers.specs.declared.view.HeaderFault.{HeaderFault}
use Rattle.ip_headers.specs.Header.{fault_of, packet_of, total_len}
use Rattle.conntrack.specs.declared.connection.ConntrackEntry.{ConntrackEntry}
use Rattle.conntrack.specs.declared.belonging.Belonging.{Belonging}
use Rattle.conntrack.specs.declared.belonging.Belonging.TheVariants.{Ends, Found, NotFound}
use Rattle.conntrack.specs.Updates.{Arrival, Confirmation, Confirmed, Unconfirmed, tracked_packet}
use Rattle.pcap_io.specs.declared.link.Link.{Link}
use Rattle.pcap_io.specs.declared.link.LinkCause.{LinkCause}
use Rattle.pcap_io.specs.Links.{link_of}
use Rattle.pcap_io.specs.Pcap.{Recorded}
use Rattle.rule_check.specs.WellFormed.{WellFormed}
use Rattle.rule_meaning.specs.declared.facts.CtFacts.{CtFacts}
use Rattle.rule_meaning.specs.declared.facts.CtFacts.TheVariants as ct
use Rattle.rule_meaning.specs.declared.facts.Interface.{Interface}
use Rattle.rule_meaning.specs.declared.stage.HookStage.TheVariants as stages
use Rattle.history.specs.declared.outcome.Cause.{Cause}
use Rattle.history.specs.Setup.{Setup, limits_of}
use Rattle.history.specs.History.{Entry, tracked_of}
use Rattle.translation.specs.declared.ct_info.CtInfo.{CtInfo}
use Rattle.translation.specs.declared.ct_info.CtInfo.TheVariants.{Tracked, Related, New, Invalid, Untracked}
use Rattle.translation.specs.LiveMappings.{mappings_in}
use Rattle.stepping.specs.Carried.{ReceivedPacket, carried, carried_after, carried_by, carried_with, input_interface, interface_facts}
use Rattle.stepping.specs.Confirmations.{Confirm, confirmation_by, confirmation_of, confirmed, mark_in, refusal, reply_to, unless_refused}
use Rattle.stepping.specs.Lookups.{belonging_of, lookup_tuple_of, others_beside}
use Rattle.stepping.specs.Next.{AfterLookUp, EntryOf, HooksAndConfirm, LookUp, Path, arrival_of, final_state}
use Rattle.stepping.specs.Next.{live_at_record, moment_after, tracked_as, tuple_in}
use Rattle.stepping.specs.Paths as paths
use Rattle.stepping.specs.Paths.{AfterRouting, Continue, DestinationNat, Drop, ForwardAndPostrouting, Hooks, InputOrForward, PathState, Prerouting, Routing}
use Rattle.stepping.specs.Paths.{RunsStage, SourceNat, Step, StepResult, on_arrival, ◌⨾◌}
use Rattle.diff_laws.specs.Coming as coming
use Rattle.diff_laws.specs.Coming.{AreBytes, HistoryOfBytes, stage_behind_routing}
use Rattle.fact_sets.specs.Boxes.{IsCt}
use Rattle.diff_laws.specs.Addresses.{AddressesFit, Every}
use Rattle.diff_laws.proofs.Each.{some_map}
use Rattle.diff_laws.proofs.Boxes.{BoxFits, IsOurs, named_ours}
use Rattle.diff_laws.proofs.Bytes.{Bytes, length_fits, total_kept, tuple_fits}
use Rattle.diff_laws.proofs.Fits.{EntryFits, InfoFits, MappingFits, PacketFits, TupleFits, inverse_fits, live_fit, mappings_fit, none_created}
use Rattle.diff_laws.proofs.Standing.{IsReceived, SeenNow, arrives, beside_fits, destination_seen, leaves, look_up_seen, raw_kept, routing_seen}
use Rattle.diff_laws.proofs.Standing.{source_seen, stage_seen}

-- ---- received packets

abbrev of_ok : ReceivedPacket → Result ReceivedPacket Cause → ReceivedPacket
of_ok other (Ok a) = a
of_ok other (Err cause) = other

received_as : (a b : ReceivedPacket) (r : Result ReceivedPacket Cause) → r ≡ Ok b → r ≡ Ok a → b ≡ a
received_as a b r f e = ap (of_ok a) (sym f) ∙ ap (of_ok a) e

module _ (setup : Setup) (box : BoxFits setup.network) (a : ReceivedPacket) where
  with_fault : (index : ℕ) (bytes : List ℕ) (o : Option HeaderFault) → fault_of bytes ≡ o → IsOurs setup.network index → Bytes bytes
      → carried_with index bytes o ≡ Ok a → IsReceived setup.network a
  with_fault index bytes (Some fault) f ours all e = absurd cc
  with_fault index bytes None f ours all e =
      let long = length_fits bytes f in
      subst (IsReceived setup.network) (received_as a (record { interface = index; packet = packet_of bytes }) (carried_with index bytes None) refl e) (record {
        bytes = All-take (λ b. b < 256) (total_len bytes) bytes all;
        long = subst (λ n. 20 ≤ n) (sym (total_kept bytes long)) long;
        ours = ours;
      })

  by_index : (bytes : List ℕ) (o : Option ℕ) → IfSome o (IsOurs setup.network) → Bytes bytes → carried_by bytes o ≡ Ok a → IsReceived setup.network a
  by_index bytes None h all e = absurd cc
  by_index bytes (Some index) h all e = with_fault index bytes (fault_of bytes) refl h all e

  input_ours : (o : Option ℕ) → IfSome (input_interface setup o) (IsOurs setup.network)
  input_ours None = box.entering
  input_ours (Some index) = some_map (λ (name : List ℕ). IsOurs setup.network index) (IsOurs setup.network) (λ name. index) (λ name h. h)
      (name_of setup.network index) (named_ours setup.network box index)

  after_link : (bytes : List ℕ) (l : Result Link LinkCause) → Bytes bytes → carried_after setup bytes l ≡ Ok a → IsReceived setup.network a
  after_link bytes (Err cause) all e = absurd cc
  after_link bytes (Ok link) all e = by_index (drop link.packet bytes) (input_interface setup link.interface) (input_ours link.interface)
      (All-drop (λ b. b < 256) link.packet bytes all) e

  pub received : (r : Recorded) → AreBytes r.bytes → carried setup r ≡ Ok a → IsReceived setup.network a
  received r all e = after_link r.bytes (link_of r.link r.bytes) all e

-- ---- what a packet leaves

abbrev ConfirmationFits : Confirmation → Type 0
ConfirmationFits Unconfirmed = Unit {0}
ConfirmationFits (Confirmed mark reply source dest) =
    (mark < 2 ^ 32) × TupleFits reply × IfSome source MappingFits × IfSome dest MappingFits

mark_fits : (c : CtFacts) → IsCt c → mark_in c < 2 ^ 32
mark_fits (ct.Known c) h = h
mark_fits ct.NotLookedUp h = lit< tt
mark_fits ct.Notrack h = lit< tt
mark_fits ct.Untracked h = lit< tt
mark_fits ct.Invalid h = lit< tt

confirmation_fits : (info : CtInfo) (mark : ℕ) → InfoFits info → mark < 2 ^ 32 → ConfirmationFits (confirmation_by info mark)
confirmation_fits (Tracked c) mark h k = (k, h.reply, tt, tt)
confirmation_fits (New n) mark h k = (k, inverse_fits n.tuple h.tuple, h.source, h.dest)
confirmation_fits (Related c) mark h k = tt
confirmation_fits Invalid mark h k = tt
confirmation_fits Untracked mark h k = tt

tracked_fits : (b : Belonging) (p : Arrival) (c : Confirmation) → TupleFits p.tuple → ConfirmationFits c → PacketFits (tracked_packet b p c)
tracked_fits (Found found) p Unconfirmed h k = record { mark = lit< tt; created = none_created }
tracked_fits (Ends id) p Unconfirmed h k = record { mark = lit< tt; created = none_created }
tracked_fits NotFound p Unconfirmed h k = record { mark = lit< tt; created = none_created }
tracked_fits (Found found) p (Confirmed mark reply source dest) h k = record { mark = k.0; created = none_created }
tracked_fits (Ends id) p (Confirmed mark reply source dest) h k =
    record { mark = k.0; created = record { original = h; reply = k.1; source = k.2; dest = k.3 } }
tracked_fits NotFound p (Confirmed mark reply source dest) h k =
    record { mark = k.0; created = record { original = h; reply = k.1; source = k.2; dest = k.3 } }

tracked_as_fits : (now : ℕ) (live : List ConntrackEntry) (p : List ℕ) (o : Option Tuple) (c : Confirmation) → IfSome o TupleFits → ConfirmationFits c
    → PacketFits (tracked_as now live p o c)
tracked_as_fits now live p None c h k = record { mark = lit< tt; created = none_created }
tracked_as_fits now live p (Some t) c h k = tracked_fits (belonging_of live p) (arrival_of now p t) c h k

lookup_fits : (info : CtInfo) (p : List ℕ) → Bytes p → IfSome (lookup_tuple_of info p) TupleFits
lookup_fits Untracked p h = tt
lookup_fits Invalid p h = tuple_fits p h
lookup_fits (Tracked c) p h = tuple_fits p h
lookup_fits (Related c) p h = tuple_fits p h
lookup_fits (New n) p h = tuple_fits p h

-- ---- paths

abbrev EndFits : PathState → Type 0
EndFits s = InfoFits s.info × IsCt s.facts.ct

abbrev ResultFits : StepResult → Type 0
ResultFits (Continue s) = EndFits s
ResultFits (Drop cause s) = Unit {0}

outcome_fits : (r : StepResult) → ResultFits r → ConfirmationFits (confirmation_of r)
outcome_fits (Continue s) h = confirmation_fits s.info (mark_in s.facts.ct) h.0 (mark_fits s.facts.ct h.1)
outcome_fits (Drop cause s) h = tt

parted : (first second : Step) (s u : PathState) → (first ⨾ second) s (Continue u) → (t : PathState) × first s (Continue t) × second t (Continue u)
parted first second s u (paths.goes_on t r x y) = (t, x, y)

kept_if : (o : Option Cause) (s z : PathState) → Continue z ≡ unless_refused o s → z ≡ s
kept_if None s z e = ap final_state e
kept_if (Some cause) s z e = absurd cc

confirmed_as : (others : List ConntrackEntry) (info : CtInfo) (s z : PathState) → Continue z ≡ confirmed others info s → z ≡ s
confirmed_as others (New n) s z e = kept_if (refusal (reply_to n) others) s z e
confirmed_as others (Tracked c) s z e = ap final_state e
confirmed_as others (Related c) s z e = ap final_state e
confirmed_as others Invalid s z e = ap final_state e
confirmed_as others Untracked s z e = ap final_state e

module _ (setup : Setup) (well : WellFormed setup.rules setup.network) (fits : AddressesFit setup.rules) (box : BoxFits setup.network) where
  module _ (index : ℕ) where
    abbrev seen : Bool → PathState → Type 0
    seen out s = SeenNow setup well fits box index out s

    ends : (out : Bool) (s : PathState) → seen out s → EndFits s
    ends out s h = (h.info, h.stands.marks.1)

    prerouted : (others : List ConntrackEntry) → Every EntryFits others → (s z : PathState) → seen false s
        → Prerouting setup (mappings_in others) s (Continue z) → seen false z
    prerouted others all s z h x =
        let one = parted (RunsStage setup stages.PreroutingBeforeNat) (DestinationNat setup (mappings_in others) ⨾ RunsStage setup stages.PreroutingAfterNat)
        s z x in
        let two = parted (DestinationNat setup (mappings_in others)) (RunsStage setup stages.PreroutingAfterNat) one.0 z one.2 in
        stage_seen setup well fits box index stages.PreroutingAfterNat false two.0 z
        (destination_seen setup well fits box index (mappings_in others) (mappings_fit others all) false one.0 two.0
        (stage_seen setup well fits box index stages.PreroutingBeforeNat false s one.0 h one.1) two.1) two.2

    behind : (others : List ConntrackEntry) → Every EntryFits others → (o : Option Interface) (s z : PathState)
        → seen (leaves (stage_behind_routing o)) s → InputOrForward setup (mappings_in others) o s (Continue z) → EndFits z
    behind others all None s z h x = ends false z (stage_seen setup well fits box index stages.Input false s z h x)
    behind others all (Some o) s z h x =
        let last = RunsStage setup stages.PostroutingAfterNat in
        let nat = SourceNat setup (mappings_in others) in
        let second = RunsStage setup stages.PostroutingBeforeNat in
        let one = parted (RunsStage setup stages.Forward) (second ⨾ nat ⨾ last) s z x in
        let two = parted second (nat ⨾ last) one.0 z one.2 in
        let three = parted nat last two.0 z two.2 in
        ends true z (stage_seen setup well fits box index stages.PostroutingAfterNat true three.0 z
        (source_seen setup well fits box index (mappings_in others) (mappings_fit others all) true two.0 three.0
        (stage_seen setup well fits box index stages.PostroutingBeforeNat true one.0 two.0
        (stage_seen setup well fits box index stages.Forward true s one.0 h one.1) two.1) three.1) three.2)

    hooked : (others : List ConntrackEntry) → Every EntryFits others → (s z : PathState) → seen false s
        → HooksAndConfirm setup others s (Continue z) → EndFits z
    hooked others all s z h x =
        let mappings = mappings_in others in
        let whole = parted (Hooks setup mappings) (Confirm others) s z x in
        let one = parted (Prerouting setup mappings) (Routing setup ⨾ AfterRouting setup mappings) s whole.0 whole.1 in
        let two = parted (Routing setup) (AfterRouting setup mappings) one.0 whole.0 one.2 in
        subst EndFits (sym (confirmed_as others whole.0.info whole.0 z whole.2))
        (behind others all two.0.facts.output two.0 whole.0
        (routing_seen setup well fits box index one.0 two.0 (prerouted others all s one.0 h one.1) two.1) two.2)

    module _ (live : List ConntrackEntry) (all : Every EntryFits live) (a : ReceivedPacket) (same : index ≡ a.interface)
        (got : IsReceived setup.network a) where
      path_fits : (z : PathState) → Path setup live a.packet (on_arrival a.packet (interface_facts setup.network a.interface)) (Continue z) → EndFits z
      path_fits z x =
          let start = on_arrival a.packet (interface_facts setup.network a.interface) in
          let one = parted (RunsStage setup stages.PreroutingRaw) (LookUp live a.packet ⨾ AfterLookUp setup live a.packet) start z x in
          let two = parted (LookUp live a.packet) (AfterLookUp setup live a.packet) one.0 z one.2 in
          hooked (others_beside two.0.info live a.packet) (beside_fits two.0.info live a.packet all) two.0 z
          (look_up_seen setup well fits box index live all a.packet got.bytes one.0 two.0
          (raw_kept setup well fits box index start one.0 (arrives setup well fits box index live all a same got) one.1) two.1) two.2

      pub result_fits : (r : StepResult) → Path setup live a.packet (on_arrival a.packet (interface_facts setup.network a.interface)) r → ResultFits r
      result_fits (Continue z) x = path_fits z x
      result_fits (Drop cause z) x = tt

  -- ---- entries

  entry_fits : (live : List ConntrackEntry) → Every EntryFits live → (r : Recorded) → AreBytes r.bytes → (now : ℕ) (c : Result ReceivedPacket Cause)
      → carried setup r ≡ c → (e : Entry) → EntryOf setup live now c e → PacketFits e.tracked
  entry_fits live all r bytes now (Err cause) is e x =
      subst (λ (y : Entry). PacketFits y.tracked) (sym x) (record { mark = lit< tt; created = none_created })
  entry_fits live all r bytes now (Ok a) is e (end, path, x) =
      let got = received setup box a r bytes is in
      subst (λ (y : Entry). PacketFits y.tracked) (sym x)
      (tracked_as_fits now live a.packet (tuple_in a.packet end) (confirmation_of end) (lookup_fits (final_state end).info a.packet got.bytes)
      (outcome_fits end (result_fits a.interface live all a refl got end path)))

  pub history_fits : (history : List Entry) → HistoryOfBytes setup history → Every PacketFits (tracked_of history)
  history_fits [] h = tt
  history_fits (e ∷ history) (coming.one_more past r f before bytes next) = (
    entry_fits (live_at_record setup history r) (live_fit (limits_of setup) (tracked_of history) (moment_after history r) (history_fits history before)) r bytes
        (moment_after history r) (carried setup r) refl e next.entry,
    history_fits history before,
  )
