-- With which facts a packet stands before a stage of its path.
use Rattle.std.specs.Prelude.{◌^◌, ◌<◌, ◌≤◌, IfSome}
use Rattle.std.proofs.Common.{◌≡◌, ◌∙◌, ℕ, ◌-◌, Bool, true, false, if◌then◌else◌, List, Option, Some, None, lit<, refl, ap, subst, sym, arith, nat_lt}
use Rattle.box_file.specs.Box.{PlantTree, is_own, route}
use Rattle.ip_headers.specs.declared.tuple.Mapping.{Mapping}
use Rattle.ip_headers.specs.declared.tuple.Tuple.{Tuple}
use Rattle.ip_headers.specs.Header.{payload_of, protocol, transport_of}
use Rattle.ip_headers.specs.Tuple.{inner_tuple_of, inverse, tuple_of}
use Rattle.conntrack.specs.declared.connection.ConntrackEntry.{ConntrackEntry}
use Rattle.conntrack.specs.declared.connection.Flags.{Flags}
use Rattle.conntrack.specs.Phases.{no_flags}
use Rattle.rule_check.specs.WellFormed.{WellFormed}
use Rattle.rule_meaning.specs.declared.facts.Facts.{Facts}
use Rattle.rule_meaning.specs.declared.facts.Interface.{Interface}
use Rattle.rule_meaning.specs.declared.facts.CtFacts.{CtFacts}
use Rattle.rule_meaning.specs.declared.facts.CtFacts.TheVariants as ct
use Rattle.rule_meaning.specs.declared.event.Event.{Event}
use Rattle.rule_meaning.specs.declared.event.HookVerdict.{HookVerdict}
use Rattle.rule_meaning.specs.declared.event.HookVerdict.TheVariants.{Accepted, Dropped, Translated}
use Rattle.rule_meaning.specs.declared.stage.HookStage.{HookStage}
use Rattle.rule_meaning.specs.declared.stage.HookStage.TheVariants as stages
use Rattle.rule_meaning.specs.Hooks.{HookResult}
use Rattle.rule_meaning.specs.Selectors.{ct_state}
use Rattle.history.specs.declared.outcome.Cause.TheVariants as causes
use Rattle.history.specs.Setup.{Setup}
use Rattle.translation.specs.declared.ct_info.CtInfo.{CtInfo}
use Rattle.translation.specs.declared.ct_info.CtInfo.TheVariants.{Tracked, Related, New, Invalid, Untracked}
use Rattle.translation.specs.CtInfos.{facts_after_destination_nat, facts_after_source_nat}
use Rattle.translation.specs.LiveMappings.{mappings_in}
use Rattle.translation.specs.Nat.{after_destination_nat, after_source_nat}
use Rattle.stepping.specs.Carried.{ReceivedPacket, interface_facts, packet_facts}
use Rattle.stepping.specs.Lookups.{belonging_by_tuple, belonging_of, ct_info_by_tuple, error_belonging, flags_in, looked_up_info, others_beside}
use Rattle.stepping.specs.Next.{LookUp, final_state, with_info}
use Rattle.stepping.specs.Paths.{Continue, DestinationNat, Drop, NatChains, PathState, Routing, RunsStage, SourceNat, after_chains}
use Rattle.stepping.specs.Paths.{destination_nat_result, forwarded_by, on_arrival, source_nat_result, unless_dropped}
use Rattle.diff_laws.specs.Coming as coming
use Rattle.diff_laws.specs.Coming.{StandsBefore, stage_behind_routing}
use Rattle.diff_laws.specs.Addresses.{AddressesFit, Every}
use Rattle.diff_laws.proofs.Boxes.{BoxFits, IsOurs, route_leads}
use Rattle.diff_laws.proofs.Bytes.{Bytes, byte_fits, header_is, payload_bytes, transport_fits, tuple_fits, u16_fits, u32_fits}
use Rattle.diff_laws.proofs.Fits.{BelongingFits, EntryFits, InfoFits, MappingFits, TupleFits, belongs_fits, error_fits, info_fits, mappings_fit, others_fit}
use Rattle.diff_laws.proofs.Running.{EndFits, stage_fits}
use Rattle.diff_laws.proofs.Statements.{Keeps, MarksFit, keeps_all}
use Rattle.diff_laws.proofs.Translations.{IsStateOf, PacketIs, info_after_destination, info_after_source, mark_after_nat, mark_looked_up, packet_after_destination}
use Rattle.diff_laws.proofs.Translations.{packet_after_source, sort_after_destination, sort_after_source, state_after_nat, state_looked_up}

-- a packet as received: its bytes are bytes, and its total length counts its header
pub record IsReceived (network : PlantTree) (a : ReceivedPacket) : Type 0 where
  pub bytes : Bytes a.packet
  pub long : 20 ≤ (packet_facts a.packet).length
  pub ours : IsOurs network a.interface

-- the stages with an output interface
abbrev pub leaves : HookStage → Bool
leaves stages.PreroutingRaw = false
leaves stages.PreroutingBeforeNat = false
leaves stages.PreroutingNat = false
leaves stages.PreroutingAfterNat = false
leaves stages.Input = false
leaves stages.Forward = true
leaves stages.PostroutingBeforeNat = true
leaves stages.PostroutingNat = true
leaves stages.PostroutingAfterNat = true

abbrev pub IsOutput : PlantTree → Bool → Option Interface → Type 0
IsOutput network false None = Unit {0}
IsOutput network false (Some o) = ⊥
IsOutput network true None = ⊥
IsOutput network true (Some o) = (n : ℕ) × IsOurs network n × (o ≡ interface_facts network n)

pub record Standing (network : PlantTree) (index : ℕ) (out : Bool) (f : Facts) : Type 0 where
  pub packet : PacketIs f.packet
  pub input : f.input ≡ interface_facts network index
  pub output : IsOutput network out f.output
  pub marks : MarksFit f

-- after the look-up
pub record Seen (network : PlantTree) (index : ℕ) (out : Bool) (s : PathState) : Type 0 where
  pub stands : Standing network index out s.facts
  pub info : InfoFits s.info
  pub state : IsStateOf s.info (ct_state s.facts.ct)

standing_kept : (network : PlantTree) (index : ℕ) (out : Bool) (f g : Facts) → Keeps f g → Standing network index out f → Standing network index out g
standing_kept network index out f g k h = record {
  packet = subst PacketIs k.packet h.packet;
  input = sym k.input ∙ h.input;
  output = subst (IsOutput network out) k.output h.output;
  marks = k.marks h.marks;
}

-- ---- steps that go on

continued : (v : HookVerdict) (s t : PathState) → Continue t ≡ unless_dropped v s → t ≡ s
continued Accepted s t e = ap final_state e
continued (Translated n) s t e = ap final_state e
continued Dropped s t e = absurd cc

same_state : (s t : PathState) → Continue t ≡ Continue s → t ≡ s
same_state s t e = ap final_state e

after_destination : (v : HookVerdict) (info : CtInfo) (s t : PathState) → Continue t ≡ destination_nat_result v info s
    → t ≡ record s { facts = facts_after_destination_nat info s.facts; info = info }
after_destination Accepted info s t e = ap final_state e
after_destination (Translated n) info s t e = ap final_state e
after_destination Dropped info s t e = absurd cc

-- ---- look-ups

belonging_fits : (live : List ConntrackEntry) (flags : Flags) (o : Option Tuple) → Every EntryFits live → BelongingFits (belonging_by_tuple live flags o)
belonging_fits live flags None h = tt
belonging_fits live flags (Some t) h = belongs_fits live t flags h

error_belonging_fits : (live : List ConntrackEntry) (o : Option Tuple) → Every EntryFits live → BelongingFits (error_belonging live o)
error_belonging_fits live None h = tt
error_belonging_fits live (Some t) h = belongs_fits live (inverse t) no_flags h

by_tuple_fits : (live : List ConntrackEntry) (p : List ℕ) (o : Option Tuple) → Every EntryFits live → IfSome o TupleFits → InfoFits (ct_info_by_tuple live p o)
by_tuple_fits live p None h k = error_fits (error_belonging live (inner_tuple_of p)) (error_belonging_fits live (inner_tuple_of p) h)
by_tuple_fits live p (Some t) h k = info_fits t (belonging_of live p) k (belonging_fits live (flags_in (transport_of p)) (tuple_of p) h)

looked_up_fits : (c : CtFacts) (live : List ConntrackEntry) (p : List ℕ) → Every EntryFits live → Bytes p → InfoFits (looked_up_info c live p)
looked_up_fits ct.Notrack live p h k = tt
looked_up_fits ct.NotLookedUp live p h k = by_tuple_fits live p (tuple_of p) h (tuple_fits p k)
looked_up_fits ct.Untracked live p h k = by_tuple_fits live p (tuple_of p) h (tuple_fits p k)
looked_up_fits ct.Invalid live p h k = by_tuple_fits live p (tuple_of p) h (tuple_fits p k)
looked_up_fits (ct.Known c) live p h k = by_tuple_fits live p (tuple_of p) h (tuple_fits p k)

pub beside_fits : (info : CtInfo) (live : List ConntrackEntry) (p : List ℕ) → Every EntryFits live → Every EntryFits (others_beside info live p)
beside_fits Untracked live p h = h
beside_fits Invalid live p h = others_fit (belonging_of live p) live h
beside_fits (Tracked c) live p h = others_fit (belonging_of live p) live h
beside_fits (Related c) live p h = others_fit (belonging_of live p) live h
beside_fits (New n) live p h = others_fit (belonging_of live p) live h

module _ (setup : Setup) (well : WellFormed setup.rules setup.network) (fits : AddressesFit setup.rules) (box : BoxFits setup.network) (index : ℕ) where
  abbrev pub StandingNow : Bool → Facts → Type 0
  StandingNow out f = Standing setup.network index out f

  abbrev pub SeenNow : Bool → PathState → Type 0
  SeenNow out s = Seen setup.network index out s

  -- ---- chains

  -- what a stage leaves
  stage_kept : (stage : HookStage) (s t : PathState) → RunsStage setup stage s (Continue t) → Keeps s.facts t.facts × (s.info ≡ t.info)
  stage_kept stage s t x =
      let is : t ≡ after_chains x.end s = continued x.end.verdict (after_chains x.end s) t x.is in
      subst (λ (u : PathState). Keeps s.facts u.facts × (s.info ≡ u.info)) (sym is)
      ((stage_fits setup.rules setup.network well fits stage s.facts s.events x.end x.ran).0, refl)

  pub stage_seen : (stage : HookStage) (out : Bool) (s t : PathState) → SeenNow out s → RunsStage setup stage s (Continue t) → SeenNow out t
  stage_seen stage out s t h x =
      let k = stage_kept stage s t x in
      record {
        stands = standing_kept setup.network index out s.facts t.facts k.0 h.stands;
        info = subst InfoFits k.1 h.info;
        state = subst (λ state. IsStateOf t.info state) k.0.state (subst (λ info. IsStateOf info (ct_state s.facts.ct)) k.1 h.state);
      }

  nat_chains_fit : (stage : HookStage) (info : CtInfo) (f : Facts) (es : List Event) (end : HookResult) → NatChains setup stage info f es end
      → EndFits setup.rules setup.network well fits f end
  nat_chains_fit stage (New n) f es end x = stage_fits setup.rules setup.network well fits stage f es end x
  nat_chains_fit stage (Tracked c) f es end x = subst (EndFits setup.rules setup.network well fits f) (sym x) (keeps_all f, tt)
  nat_chains_fit stage (Related c) f es end x = subst (EndFits setup.rules setup.network well fits f) (sym x) (keeps_all f, tt)
  nat_chains_fit stage Invalid f es end x = subst (EndFits setup.rules setup.network well fits f) (sym x) (keeps_all f, tt)
  nat_chains_fit stage Untracked f es end x = subst (EndFits setup.rules setup.network well fits f) (sym x) (keeps_all f, tt)

  -- ---- translation

  destined_seen : (out : Bool) (info : CtInfo) (f : Facts) (events : List Event) → StandingNow out f → InfoFits info → IsStateOf info (ct_state f.ct)
      → SeenNow out (record { facts = facts_after_destination_nat info f; info = info; events = events })
  destined_seen out info f events h k st = record {
    stands = record {
      packet = packet_after_destination info f.packet k h.packet;
      input = h.input;
      output = h.output;
      marks = (h.marks.0, mark_after_nat info f.ct h.marks.1);
    };
    info = k;
    state = subst (λ state. IsStateOf info state) (state_after_nat info f.ct) st;
  }

  pub destination_seen : (mappings : List Mapping) → Every MappingFits mappings → (out : Bool) (s t : PathState) → SeenNow out s
      → DestinationNat setup mappings s (Continue t) → SeenNow out t
  destination_seen mappings all out s t h x =
      let end = x.end in
      let after = after_destination_nat setup.network mappings end.facts s.info end.verdict in
      let k : EndFits setup.rules setup.network well fits s.facts end = nat_chains_fit stages.PreroutingNat s.info s.facts s.events end x.ran in
      let is : t ≡ record (after_chains end s) { facts = facts_after_destination_nat after end.facts; info = after } =
      after_destination end.verdict after (after_chains end s) t x.is in
      subst (SeenNow out) (sym is) (destined_seen out after end.facts end.events
      (standing_kept setup.network index out s.facts end.facts k.0 h.stands)
      (info_after_destination setup.network box.addresses mappings all end.facts s.info h.info end.verdict k.1)
      (subst (λ state. IsStateOf after state) k.0.state
      (sort_after_destination setup.network mappings end.facts s.info end.verdict (ct_state s.facts.ct) h.state)))

  sourced_seen : (out : Bool) (info : CtInfo) (f : Facts) (events : List Event) → StandingNow out f → InfoFits info → IsStateOf info (ct_state f.ct)
      → SeenNow out (record { facts = facts_after_source_nat info f; info = info; events = events })
  sourced_seen out info f events h k st = record {
    stands = record {
      packet = packet_after_source info f.packet k h.packet;
      input = h.input;
      output = h.output;
      marks = (h.marks.0, mark_after_nat info f.ct h.marks.1);
    };
    info = k;
    state = subst (λ state. IsStateOf info state) (state_after_nat info f.ct) st;
  }

  source_result : (out : Bool) (v : HookVerdict) (o : Option CtInfo) (s t : PathState) → StandingNow out s.facts → IfSome o InfoFits
      → IfSome o (λ i. IsStateOf i (ct_state s.facts.ct)) → Continue t ≡ source_nat_result v o s → SeenNow out t
  source_result out Dropped o s t h k st e = absurd cc
  source_result out Accepted None s t h k st e = absurd cc
  source_result out (Translated n) None s t h k st e = absurd cc
  source_result out Accepted (Some i) s t h k st e = subst (SeenNow out) (sym (ap final_state e)) (sourced_seen out i s.facts s.events h k st)
  source_result out (Translated n) (Some i) s t h k st e = subst (SeenNow out) (sym (ap final_state e)) (sourced_seen out i s.facts s.events h k st)

  pub source_seen : (mappings : List Mapping) → Every MappingFits mappings → (out : Bool) (s t : PathState) → SeenNow out s
      → SourceNat setup mappings s (Continue t) → SeenNow out t
  source_seen mappings all out s t h x =
      let end = x.end in
      let k : EndFits setup.rules setup.network well fits s.facts end = nat_chains_fit stages.PostroutingNat s.info s.facts s.events end x.ran in
      source_result out end.verdict (after_source_nat setup.network mappings end.facts s.info end.verdict) (after_chains end s) t
      (standing_kept setup.network index out s.facts end.facts k.0 h.stands)
      (info_after_source setup.network box.addresses mappings all end.facts s.info h.info end.verdict k.1)
      (subst (λ state. IfSome (after_source_nat setup.network mappings end.facts s.info end.verdict) (λ i. IsStateOf i state)) k.0.state
      (sort_after_source setup.network mappings end.facts s.info end.verdict (ct_state s.facts.ct) h.state)) x.is

  -- ---- routing

  no_output : (o : Option Interface) → IsOutput setup.network false o → o ≡ None
  no_output None h = refl
  no_output (Some o) h = absurd h

  local_seen : (s : PathState) → SeenNow false s → SeenNow (leaves (stage_behind_routing s.facts.output)) s
  local_seen s h = subst (λ (o : Option Interface). SeenNow (leaves (stage_behind_routing o)) s) (sym (no_output s.facts.output h.stands.output)) h

  one_less : (n : ℕ) → n < 2 ^ 8 → n - 1 < 2 ^ 8
  one_less n h = omega arith

  abbrev sent_to : ℕ → PathState → PathState
  sent_to n s = record s {
    facts = record s.facts {
      output = Some (interface_facts setup.network n);
      packet = record s.facts.packet { ttl = s.facts.packet.ttl - 1 };
    };
  }

  sent_seen : (n : ℕ) (s : PathState) → IsOurs setup.network n → SeenNow false s → SeenNow true (sent_to n s)
  sent_seen n s k h =
      let p = h.stands.packet in
      record {
        stands = record {
          packet = record {
            fits = record {
              source = p.fits.source;
              destination = p.fits.destination;
              protocol = p.fits.protocol;
              ttl = one_less s.facts.packet.ttl p.fits.ttl;
              length = p.fits.length;
              transport = p.fits.transport;
            };
            header = p.header;
            long = p.long;
          };
          input = h.stands.input;
          output = (n, k, refl);
          marks = h.stands.marks;
        };
        info = h.info;
        state = h.state;
      }

  sent_if : (b : Bool) (n : ℕ) (s u : PathState) → IsOurs setup.network n → SeenNow false s
      → Continue u ≡ (if b then Drop causes.Ttl s else Continue (sent_to n s)) → SeenNow (leaves (stage_behind_routing u.facts.output)) u
  sent_if true n s u k h e = absurd cc
  sent_if false n s u k h e =
      subst (λ (v : PathState). SeenNow (leaves (stage_behind_routing v.facts.output)) v) (sym (ap final_state e)) (sent_seen n s k h)

  forwarded_seen : (o : Option ℕ) (s u : PathState) → IfSome o (IsOurs setup.network) → SeenNow false s → Continue u ≡ forwarded_by setup o s
      → SeenNow (leaves (stage_behind_routing u.facts.output)) u
  forwarded_seen None s u k h e = absurd cc
  forwarded_seen (Some n) s u k h e = sent_if (nat_lt s.facts.packet.ttl 2) n s u k h e

  routed_if : (b : Bool) (s u : PathState) → SeenNow false s
      → Continue u ≡ (if b then Continue s else forwarded_by setup (route setup.network s.facts.packet.destination) s)
      → SeenNow (leaves (stage_behind_routing u.facts.output)) u
  routed_if true s u h e =
      subst (λ (v : PathState). SeenNow (leaves (stage_behind_routing v.facts.output)) v) (sym (ap final_state e)) (local_seen s h)
  routed_if false s u h e = forwarded_seen (route setup.network s.facts.packet.destination) s u
      (route_leads setup.network box s.facts.packet.destination) h e

  pub routing_seen : (s u : PathState) → SeenNow false s → Routing setup s (Continue u) → SeenNow (leaves (stage_behind_routing u.facts.output)) u
  routing_seen s u h e = routed_if (is_own setup.network s.facts.packet.destination) s u h e

  -- ---- before the look-up

  abbrev pub RawNow : PathState → Type 0
  RawNow s = StandingNow false s.facts × (ct_state s.facts.ct ≡ None)

  pub raw_kept : (s t : PathState) → RawNow s → RunsStage setup stages.PreroutingRaw s (Continue t) → RawNow t
  raw_kept s t h x =
      let k = stage_kept stages.PreroutingRaw s t x in
      (standing_kept setup.network index false s.facts t.facts k.0 h.0, sym k.0.state ∙ h.1)

  informed : (s : PathState) (info : CtInfo) → StandingNow false s.facts → InfoFits info → SeenNow false (with_info info s)
  informed s info h k = record {
    stands = record { packet = h.packet; input = h.input; output = h.output; marks = (h.marks.0, mark_looked_up info k) };
    info = k;
    state = state_looked_up info;
  }

  pub look_up_seen : (live : List ConntrackEntry) → Every EntryFits live → (p : List ℕ) → Bytes p → (s t : PathState) → RawNow s
      → LookUp live p s (Continue t) → SeenNow false t
  look_up_seen live all p bytes s t h e = subst (SeenNow false) (sym (ap final_state e))
      (informed s (looked_up_info s.facts.ct live p) h.0 (looked_up_fits s.facts.ct live p all bytes))

  -- ---- all stages

  abbrev pub Before : HookStage → PathState → Type 0
  Before stages.PreroutingRaw s = RawNow s
  Before stages.PreroutingBeforeNat s = SeenNow false s
  Before stages.PreroutingNat s = SeenNow false s
  Before stages.PreroutingAfterNat s = SeenNow false s
  Before stages.Input s = SeenNow false s
  Before stages.Forward s = SeenNow true s
  Before stages.PostroutingBeforeNat s = SeenNow true s
  Before stages.PostroutingNat s = SeenNow true s
  Before stages.PostroutingAfterNat s = SeenNow true s

  behind_routing : (o : Option Interface) (s : PathState) → SeenNow (leaves (stage_behind_routing o)) s → Before (stage_behind_routing o) s
  behind_routing None s h = h
  behind_routing (Some o) s h = h

  module _ (live : List ConntrackEntry) (all : Every EntryFits live) (a : ReceivedPacket) (at_index : index ≡ a.interface)
      (received : IsReceived setup.network a) where
    pub arrives : RawNow (on_arrival a.packet (interface_facts setup.network a.interface))
    arrives = (
      record {
        packet = record {
          fits = record {
            source = u32_fits a.packet received.bytes 12;
            destination = u32_fits a.packet received.bytes 16;
            protocol = byte_fits a.packet received.bytes 9;
            ttl = byte_fits a.packet received.bytes 8;
            length = u16_fits a.packet received.bytes 2;
            transport = transport_fits (protocol a.packet) (payload_of a.packet) (payload_bytes a.packet received.bytes);
          };
          header = header_is (protocol a.packet) (payload_of a.packet);
          long = received.long;
        };
        input = ap (interface_facts setup.network) (sym at_index);
        output = tt;
        marks = (lit< tt, tt);
      },
      refl,
    )

    pub stands : {stage : HookStage} {others : List ConntrackEntry} {s : PathState} → StandsBefore setup live a stage others s
        → Before stage s × Every EntryFits others
    stands coming.arrived = (arrives, all)
    stands (coming.looked_up s t u h x y) =
        (look_up_seen live all a.packet received.bytes t u (raw_kept s t (stands h).0 x) y, beside_fits u.info live a.packet all)
    stands (coming.before_destination_nat others s t h x) =
        (stage_seen stages.PreroutingBeforeNat false s t (stands h).0 x, (stands h).1)
    stands (coming.behind_destination_nat others s t h x) =
        (destination_seen (mappings_in others) (mappings_fit others (stands h).1) false s t (stands h).0 x, (stands h).1)
    stands (coming.routed others s t u h x y) =
        (behind_routing u.facts.output u (routing_seen t u (stage_seen stages.PreroutingAfterNat false s t (stands h).0 x) y), (stands h).1)
    stands (coming.forwarded others s t h x) = (stage_seen stages.Forward true s t (stands h).0 x, (stands h).1)
    stands (coming.before_source_nat others s t h x) = (stage_seen stages.PostroutingBeforeNat true s t (stands h).0 x, (stands h).1)
    stands (coming.behind_source_nat others s t h x) =
        (source_seen (mappings_in others) (mappings_fit others (stands h).1) true s t (stands h).0 x, (stands h).1)
