-- The path of a packet through the hooks, and its entry.
use Rattle.std.proofs.Common.{arith}
use Rattle.translation_laws.proofs.Names.{◌++◌, Accepted, AfterLookUp, AfterRouting, Belonging, Bool, Cause, ComesWith, ConnectionRef, ConntrackEntry}
use Rattle.translation_laws.proofs.Names.{Continue, CtFacts, CtInfo, DestinationNat, Drop, Dropped, Entry, EntryOf, Err, Event, ExternalSource, Facts, Found}
use Rattle.translation_laws.proofs.Names.{HookResult, HookVerdict, Hooks, HooksAndConfirm, InputOrForward, Interface, Invalid, IsAccepted, List, LookUp}
use Rattle.translation_laws.proofs.Names.{Mapping, NatChains, New, NewConnection, Next, NoChange, None, Notrack, Ok, Option, Path, PathState, ReceivedPacket}
use Rattle.translation_laws.proofs.Names.{Recorded, Result, Routing, RunsStage, Setup, Some, SourceNat, Step, StepResult, Tracked, Tuple, Unconfirmed, []}
use Rattle.translation_laws.proofs.Names.{after_chains, after_destination_nat, after_end, after_source_nat, ap, append-nil, append_assoc, arrival_of}
use Rattle.translation_laws.proofs.Names.{belonging_of, belongs_in, carried, confirmation_by, confirmed, ct_facts_after_nat, ct_info_by}
use Rattle.translation_laws.proofs.Names.{ct_info_by_tuple, destination_nat_result, entry_at, entry_of_packet, error_belonging, error_ct_info, external_source}
use Rattle.translation_laws.proofs.Names.{facts_after_destination_nat, facts_after_source_nat, false, if◌then◌else◌, may_begin, flags_in, inner_tuple_of, interface_facts}
use Rattle.translation_laws.proofs.Names.{live_at_record, looked_up_info, lookup_tuple_of, mappings_in, mark_in, moment_after, new_connection_of}
use Rattle.translation_laws.proofs.Names.{on_arrival, others_beside, outcome_by, port_choice_for, refl, refusal, reply_to, sent_on, some_of_map, some_unique}
use Rattle.translation_laws.proofs.Names.{source_nat_result, subst, sym, tracked_connection, transport_of, true, tuple_of, unless_dropped}
use Rattle.translation_laws.proofs.Names.{with_destination_nat, with_source_nat, ℕ, ◌∙◌, ◌≡◌, ◌⨾◌}
use Rattle.rule_meaning.specs.Hooks.{chains_in_stage}
use Rattle.rule_meaning.specs.declared.stage.HookStage.{HookStage}
use Rattle.translation_laws.proofs.Chains.{Held, HoldsThrough, RecordsNat, TellExempt, chains_hold, did_exempt, did_nat_act, none_earlier, nothing_holds}
use Rattle.history.specs.declared.outcome.Outcome.TheVariants as outcomes
use Rattle.rule_meaning.specs.declared.stage.HookStage.TheVariants as stages
use Rattle.conntrack.specs.Updates as updates

-- ==== What NAT makes of the state of a packet that isn't dropped.

-- ---- steps

-- of the state of a packet that isn't dropped
abbrev pub IfContinues : (PathState → Type 0) → StepResult → Type 0
IfContinues P (Continue s) = P s
IfContinues P (Drop cause s) = Unit {0}

-- a step leads from states with the one property to states with the other
abbrev Leads : (PathState → Type 0) → Step → (PathState → Type 0) → Type 0
Leads P step Q = (s : PathState) (r : StepResult) → step s r → P s → IfContinues Q r

leads_then : (P Q R : PathState → Type 0) (first second : Step) → Leads P first Q → Leads Q second R
    → Leads P (first ⨾ second) R
leads_then P Q R first second one two s r h9 p = grind arith

-- ---- chains

-- of a state, an output interface and events
abbrev pub Property : Type 1
Property = CtInfo → Option Interface → List Event → Type 0

abbrev pub Anything : Property
Anything info output es = Unit {0}

-- further events keep it
abbrev pub Grows : Property → Type 0
Grows Q = (info : CtInfo) (output : Option Interface) (es later : List Event) → Q info output es → Q info output (es ++ later)

-- the packet came by this interface, and has the property
abbrev pub IsAt : Interface → Option Bool → Property → PathState → Type 0
IsAt input at_look_up Q s = Held input at_look_up (Q s.info) s.facts s.events

module _ (setup : Setup) (input : Interface) (at_look_up : Option Bool) (Q : Property) (grows : Grows Q) where
  stage_leads : (stage : HookStage) → Leads (IsAt input at_look_up Q) (RunsStage setup stage) (IsAt input at_look_up Q)
  stage_leads stage s r x p = subst (IfContinues (IsAt input at_look_up Q)) (sym x.is) (by_verdict x.end.verdict)
    where
      by_verdict : (v : HookVerdict) → IfContinues (IsAt input at_look_up Q) (unless_dropped v (after_chains x.end s))
      by_verdict Dropped = tt
      by_verdict _ = (chains_hold input at_look_up (Q s.info) (grows s.info) setup.network setup.rules (chains_in_stage stage)
          s.facts s.events x.end x.ran p).0

nat_chains_hold : (setup : Setup) (input : Interface) (at_look_up : Option Bool) (Q : Option Interface → List Event → Type 0)
    (grows : (output : Option Interface) (es later : List Event) → Q output es → Q output (es ++ later)) (stage : HookStage)
    (info : CtInfo) → HoldsThrough input at_look_up Q grows (NatChains setup stage info)
nat_chains_hold setup input at_look_up Q grows stage (New new_connection) =
    chains_hold input at_look_up Q grows setup.network setup.rules (chains_in_stage stage)
nat_chains_hold setup input at_look_up Q grows stage _ = nothing_holds input at_look_up Q grows

-- a packet that chains of type nat don't drop
abbrev IsOpen : HookVerdict → Type 0
IsOpen Dropped = ⊥
IsOpen _ = Unit {0}

unless_destination_drops : (P : PathState → Type 0) (v : HookVerdict) (info : CtInfo) (s : PathState)
    → (IsOpen v → P (record s { facts = facts_after_destination_nat info s.facts; info = info }))
    → IfContinues P (destination_nat_result v info s)
unless_destination_drops P v info s so = grind arith

unless_source_drops : (P : PathState → Type 0) (v : HookVerdict) (o : Option CtInfo) (s : PathState)
    → (IsOpen v → (info : CtInfo) → o ≡ Some info
    → P (record s { facts = facts_after_source_nat info s.facts; info = info }))
    → IfContinues P (source_nat_result v o s)
unless_source_drops P v o s so = grind arith

-- without a NAT statement among the events, chains that don't drop the packet accept it
accepts : (v : HookVerdict) (es : List Event) → IsOpen v → RecordsNat v es → did_nat_act es ≡ false → v ≡ Accepted
accepts v es on told untold = grind arith

after_nat_tells : (info : CtInfo) (ct : CtFacts) (at_look_up : Option Bool) (exempt : Bool)
    → TellExempt ct at_look_up exempt → TellExempt (ct_facts_after_nat info ct) at_look_up exempt
after_nat_tells info ct at_look_up exempt told = grind arith

-- ---- NAT

-- the nat chains of postrouting gave this result, for a packet in this state that came by this interface; without a NAT statement
-- they accepted it
pub record IsAsked (setup : Setup) (input : Interface) (info : CtInfo) (asked : HookResult) : Type 0 where
  pub facts : Facts
  pub before : List Event
  pub ran : NatChains setup stages.PostroutingNat info facts before asked
  pub entered : asked.facts.input ≡ input
  pub accepted : did_nat_act asked.events ≡ false → asked.verdict ≡ Accepted

-- of a packet that came by this interface
module _ (setup : Setup) (mappings : List Mapping) (input : Interface) where
  abbrev pub turned_by : NewConnection → HookResult → NewConnection
  turned_by d asked = with_destination_nat setup.network mappings asked.facts d asked.verdict

  -- the external source of a new connection behind destination NAT; none where the packet is for the box
  pub data HasSource (turned : NewConnection) (x : Option ExternalSource) (s : PathState) : Type 0 where
    delivered : s.facts.output ≡ None → x ≡ None → HasSource turned x s
    forwarded_on : (asked : HookResult) → IsAsked setup input (New turned) asked → (later : List Event)
        → s.events ≡ asked.events ++ later
        → external_source setup.network asked.facts turned asked.verdict ≡ x → HasSource turned x s

  -- a new connection behind destination and source NAT; without a NAT statement the chains of type nat accepted the packet
  pub record IsTranslated (d : NewConnection) (s : PathState) : Type 0 where
    pub asked : HookResult
    pub accepted : did_nat_act s.events ≡ false → asked.verdict ≡ Accepted
    pub external : Option ExternalSource
    pub source : HasSource (turned_by d asked) external s
    pub left : NewConnection
    pub drafted : with_source_nat mappings (turned_by d asked) external ≡ Some left
    pub is : s.info ≡ New left

  -- the state behind destination NAT, by the result of its chains
  abbrev behind : CtInfo → HookResult → CtInfo
  behind info asked = after_destination_nat setup.network mappings asked.facts info asked.verdict

  -- and behind source NAT, which a packet for the box doesn't pass
  data Leaves (turned info : CtInfo) (output : Option Interface) (es : List Event) : Type 0 where
    kept_for_box : output ≡ None → info ≡ turned → Leaves turned info output es
    sent : (asked : HookResult) → IsAsked setup input turned asked → (later : List Event) → es ≡ asked.events ++ later
        → after_source_nat setup.network mappings asked.facts turned asked.verdict ≡ Some info → Leaves turned info output es

  -- what is true where the hooks begin, between destination and source NAT, and after both, where a `notrack` took effect
  -- before the look-up, or not, as its facts tell
  module _ (exempt : Bool) (info : CtInfo) where
    abbrev Before : Property
    Before now output es = now ≡ info

    abbrev Between : Property
    Between now output es =
        (asked : HookResult) × (did_nat_act es ≡ false → asked.verdict ≡ Accepted) × (now ≡ behind info asked)

    abbrev AfterNat : Property
    AfterNat now output es = (asked : HookResult) × (did_nat_act es ≡ false → asked.verdict ≡ Accepted)
        × Leaves (behind info asked) now output es

    abbrev At : Property → PathState → Type 0
    At Q = IsAt input (Some exempt) Q

    between_leads : (stage : HookStage) → Leads (At Between) (RunsStage setup stage) (At Between)
    between_leads = stage_leads setup input (Some exempt) Between
        (λ now output es later b. (b.0, λ none. b.1 (none_earlier es later none), b.2))

    after_leads : (stage : HookStage) → Leads (At AfterNat) (RunsStage setup stage) (At AfterNat)
    after_leads = stage_leads setup input (Some exempt) AfterNat (λ now output es later n. (
      n.0,
      λ none. n.1 (none_earlier es later none),
      elim n.2 [
        | kept_for_box none is ↦ kept_for_box none is
        | sent asked q more among is ↦
            sent asked q (more ++ later) (ap (λ (l : List Event). l ++ later) among ∙ append_assoc asked.events more later) is
      ],
    ))

    destination_leads : Leads (At Before) (DestinationNat setup mappings) (At Between)
    destination_leads s r x h =
        let k = nat_chains_hold setup input (Some exempt) (λ output es. s.info ≡ info) (λ output es later is. is)
        stages.PreroutingNat s.info s.facts s.events x.end x.ran h in
        subst (IfContinues (At Between)) (sym x.is)
        (unless_destination_drops (At Between) x.end.verdict (behind s.info x.end) (after_chains x.end s) (λ on. record {
          entered = k.0.entered;
          told = after_nat_tells (behind s.info x.end) x.end.facts.ct (Some exempt) (did_exempt x.end.events) k.0.told;
          so = (x.end, accepts x.end.verdict x.end.events on k.1, ap (λ (w : CtInfo). behind w x.end) h.so);
        }))

    source_leads : Leads (At Between) (SourceNat setup mappings) (At AfterNat)
    source_leads s r y h =
        let asked = h.so.0 in
        let turned = behind info asked in
        let x = subst (λ (w : CtInfo). SourceNat setup mappings (record s { info = w }) r) h.so.2 y in
        let k = nat_chains_hold setup input (Some exempt) (λ output es. did_nat_act es ≡ false → asked.verdict ≡ Accepted)
        (λ output es later accepted none. accepted (none_earlier es later none)) stages.PostroutingNat turned s.facts s.events
        x.end x.ran (record { entered = h.entered; told = h.told; so = h.so.1 }) in
        subst (IfContinues (At AfterNat)) (sym x.is)
        (unless_source_drops (At AfterNat) x.end.verdict (after_source_nat setup.network mappings x.end.facts turned x.end.verdict)
        (after_chains x.end (record s { info = turned })) (λ on left e. record {
          entered = k.0.entered;
          told = after_nat_tells left x.end.facts.ct (Some exempt) (did_exempt x.end.events) k.0.told;
          so = (
            asked,
            k.0.so,
            sent x.end (record {
              facts = s.facts;
              before = s.events;
              ran = x.ran;
              entered = k.0.entered;
              accepted = accepts x.end.verdict x.end.events on k.1;
            }) [] (sym (append-nil x.end.events)) e,
          );
        }))

    routing_leads : Leads (At Between) (Routing setup) (At Between)
    routing_leads s r is b = grind arith

    after_routing_leads : Leads (At Between) (AfterRouting setup mappings) (At AfterNat)
    after_routing_leads s r x b = by_output s.facts.output refl x
      where
        by_output : (o : Option Interface) → s.facts.output ≡ o → InputOrForward setup mappings o s r → IfContinues (At AfterNat) r
        by_output None e y = after_leads stages.Input s r y
            (record { entered = b.entered; told = b.told; so = (b.so.0, b.so.1, kept_for_box e b.so.2) })
        by_output (Some output) e y =
            leads_then _ _ _ _ _ (between_leads stages.Forward)
            (leads_then _ _ _ _ _ (between_leads stages.PostroutingBeforeNat)
            (leads_then _ _ _ _ _ source_leads (after_leads stages.PostroutingAfterNat))) s r y b

    hooks_lead : Leads (At Before) (Hooks setup mappings) (At AfterNat)
    hooks_lead =
        leads_then _ _ _ _ _
        (leads_then _ _ _ _ _
        (stage_leads setup input (Some exempt) Before (λ now output es later is. is) stages.PreroutingBeforeNat)
        (leads_then _ _ _ _ _ destination_leads (between_leads stages.PreroutingAfterNat)))
        (leads_then _ _ _ _ _ routing_leads after_routing_leads)

  translated : (exempt : Bool) (d : NewConnection) (s : PathState) → At exempt (New d) (AfterNat exempt (New d)) s
      → IsTranslated d s
  translated exempt d s n = elim n.so.2 [
    | kept_for_box none is ↦ record {
      asked = n.so.0;
      accepted = n.so.1;
      external = None;
      source = delivered none refl;
      left = turned_by d n.so.0;
      drafted = refl;
      is = is;
    }
    | sent asked q later among is ↦
        let turned = turned_by d n.so.0 in
        let external = external_source setup.network asked.facts turned asked.verdict in
        let left = some_of_map (λ (x : NewConnection). New x) (with_source_nat mappings turned external) s.info is in
        record {
          asked = n.so.0;
          accepted = n.so.1;
          external = external;
          source = forwarded_on asked q later among refl;
          left = left.0;
          drafted = left.1;
          is = sym left.2;
        }
  ]

-- ---- confirmation

-- a connection that begins isn't refused beside these others
abbrev IsUnrefused : List ConntrackEntry → CtInfo → Type 0
IsUnrefused others (New new_connection) = refusal (reply_to new_connection) others ≡ None
IsUnrefused others _ = Unit {0}

unless_confirmation_drops : (others : List ConntrackEntry) (P : PathState → Type 0) (s : PathState) (info : CtInfo)
    → (IsUnrefused others info → P s) → IfContinues P (confirmed others info s)
unless_confirmation_drops others P s info so = grind arith

-- ==== The path of a packet that isn't dropped.

-- ---- the look-up

-- what a packet with this tuple belongs to
abbrev pub belongs_by : List ConntrackEntry → List ℕ → Tuple → Belonging
belongs_by live p t = belongs_in live t (flags_in (transport_of p))

-- the live mappings then, without those of a connection that its own lone SYN removes
abbrev pub beside : List ConntrackEntry → List ℕ → Tuple → List Mapping
beside live p t = mappings_in (after_end (belongs_by live p t) live)

abbrev pub IsNone : Belonging → Type 0
IsNone (Found place) = ⊥
IsNone _ = Unit {0}

abbrev is_notrack : CtFacts → Bool
is_notrack Notrack = true
is_notrack _ = false

-- ==== The entry of a record.

-- a forwarded packet is accepted
pub passes_accepted : (e : Entry) (interface : ℕ) → e.outcome ≡ outcomes.Passed interface → IsAccepted e
passes_accepted e interface passed cause dropped = cc

-- what became of a packet with this tuple that belongs so
pub data IsLookedUp (setup : Setup) (held : List ConntrackEntry) (a : ReceivedPacket) (b : Belonging) (t : Tuple) (s : PathState)
    : Type 0 where
  refreshes : (place : ConnectionRef) → b ≡ Found place → s.info ≡ Tracked (tracked_connection place)
      → IsLookedUp setup held a b t s
  begins : IsNone b → may_begin t.kind ≡ true
      → (n : IsTranslated setup (mappings_in (after_end b held)) (interface_facts setup.network a.interface) (new_connection_of t) s)
      → refusal (reply_to n.left) (after_end b held) ≡ None → IsLookedUp setup held a b t s
  is_invalid : IsNone b → (may_begin t.kind ≡ true → ⊥) → s.info ≡ Invalid → IsLookedUp setup held a b t s

module _ (setup : Setup) (held : List ConntrackEntry) (now : ℕ) where
  -- it was looked up with this tuple and isn't dropped, and this is its entry
  pub record AcceptedWith (a : ReceivedPacket) (t : Tuple) (e : Entry) : Type 0 where
    pub end : PathState
    pub read : tuple_of a.packet ≡ Some t
    pub untouched : did_exempt e.events ≡ false
    pub state : IsLookedUp setup held a (belongs_by held a.packet t) t end
    pub tracked : e.tracked ≡ updates.tracked_packet (belongs_by held a.packet t) (arrival_of now a.packet t)
        (confirmation_by end.info (mark_in end.facts.ct))
    pub port_choice : e.port_choice ≡ port_choice_for (beside held a.packet t) end.info
    pub events : e.events ≡ end.events
    pub outcome : e.outcome ≡ outcome_by end.facts.output
    pub packet : e.packet ≡ sent_on a.packet end.info (outcome_by end.facts.output)

  -- the entry of a record without a look-up, of a packet that was looked up and is dropped, or of one that isn't
  pub data EntryCase (carries : Result ReceivedPacket Cause) (e : Entry) : Type 0 where
    unseen_so : e.tracked ≡ entry_at now → e.port_choice ≡ None
        → ((a : ReceivedPacket) (t : Tuple) → carries ≡ Ok a → tuple_of a.packet ≡ Some t
        → did_exempt e.events ≡ false → IsAccepted e → ⊥) → EntryCase carries e
    dropped_so : (p : List ℕ) (t : Tuple) → tuple_of p ≡ Some t
        → e.tracked ≡ updates.tracked_packet (belongs_by held p t) (arrival_of now p t) Unconfirmed
        → e.port_choice ≡ None → (cause : Cause) → e.outcome ≡ outcomes.Dropped cause → EntryCase carries e
    accepted_so : (a : ReceivedPacket) → carries ≡ Ok a → (t : Tuple) → AcceptedWith a t e → EntryCase carries e

  module _ (a : ReceivedPacket) where
    abbrev input : Interface
    input = interface_facts setup.network a.interface

    abbrev p : List ℕ
    p = a.packet

    looked_up_tuple : (t : Tuple) (s : PathState) → tuple_of p ≡ Some t → IsLookedUp setup held a (belongs_by held p t) t s
        → lookup_tuple_of s.info p ≡ Some t
    looked_up_tuple t s read h3 = grind arith

    -- where it isn't dropped
    abbrev IsThrough : PathState → Type 0
    IsThrough s = EntryCase (Ok a) (entry_of_packet now held p (Continue s))

    module _ (exempt : Bool) (s : PathState) where
      -- NAT beside these others, and confirmed
      abbrev IsConfirmed : List ConntrackEntry → CtInfo → Type 0
      IsConfirmed others info = At setup (mappings_in others) input exempt info (AfterNat setup (mappings_in others) input exempt info) s
          × IsUnrefused others s.info

      by_state : (t : Tuple) (b : Belonging) → belonging_of held p ≡ b → IsNone b → (may : Bool) → may_begin t.kind ≡ may
          → IsConfirmed (others_beside (if may then New (new_connection_of t) else Invalid) held p)
          (if may then New (new_connection_of t) else Invalid) → IsLookedUp setup held a b t s
      by_state t b is none true new c =
          let k : IsConfirmed (after_end b held) (New (new_connection_of t)) = rw is at c in
          let n = translated setup (mappings_in (after_end b held)) input exempt (new_connection_of t) s k.0 in
          begins none new n (subst (IsUnrefused (after_end b held)) n.is k.1)
      by_state t b is none false other c = is_invalid none (λ new. cc (new, other)) (grind arith)

      by_belonging : (t : Tuple) (b : Belonging) → belonging_of held p ≡ b
          → IsConfirmed (others_beside (ct_info_by t b) held p) (ct_info_by t b) → IsLookedUp setup held a b t s
      by_belonging t (Found place) is c = refreshes place refl (grind arith)
      by_belonging t b is c = by_state t b is tt (may_begin t.kind) refl c

      by_error : tuple_of p ≡ None → (b : Belonging)
          → IsConfirmed (others_beside (error_ct_info b) held p) (error_ct_info b) → IsThrough s
      by_error none h1 c = grind arith

      by_tuple : did_exempt s.events ≡ false → (o : Option Tuple) → tuple_of p ≡ o
          → IsConfirmed (others_beside (ct_info_by_tuple held p o) held p) (ct_info_by_tuple held p o) → IsThrough s
      by_tuple tracked None none c = by_error none (error_belonging held (inner_tuple_of p)) c
      by_tuple tracked (Some t) read c =
          let state : IsLookedUp setup held a (belongs_by held p t) t s = rw read at (by_belonging t (belonging_of held p) refl c) in
          accepted_so a refl t (record {
            end = s;
            read = read;
            untouched = tracked;
            state = state;
            tracked = rw (looked_up_tuple t s read state, read) refl;
            port_choice = rw read refl;
            events = refl;
            outcome = refl;
            packet = refl;
          })

      by_facts : (ct : CtFacts) → did_exempt s.events ≡ is_notrack ct
          → IsConfirmed (others_beside (looked_up_info ct held p) held p) (looked_up_info ct held p) → IsThrough s
      by_facts Notrack exempt c = grind arith
      by_facts _ tracked c = by_tuple tracked (tuple_of p) refl c

    -- it has the state of its look-up, by what rules could read of its connection before
    abbrev LookedUp : PathState → Type 0
    LookedUp s = (ct : CtFacts)
        × IsAt input (Some (is_notrack ct)) (λ info output es. info ≡ looked_up_info ct held p) s

    look_up_leads : Leads (IsAt input None Anything) (LookUp held p) LookedUp
    look_up_leads s r is h =
        let ct = s.facts.ct in
        subst (IfContinues LookedUp) (sym is) (
          ct,
          record {
            entered = h.entered;
            told = grind (arith, h.told);
            so = refl;
          },
        )

    after_look_up_leads : Leads LookedUp (AfterLookUp setup held p) IsThrough
    after_look_up_leads s r x k =
        let info = looked_up_info k.0 held p in
        let others = others_beside info held p in
        let exempt = is_notrack k.0 in
        let y : HooksAndConfirm setup others s r =
        subst (λ (w : CtInfo). HooksAndConfirm setup (others_beside w held p) s r) k.1.so x in
        leads_then _ (At setup (mappings_in others) input exempt info (AfterNat setup (mappings_in others) input exempt info)) IsThrough _ _
        (hooks_lead setup (mappings_in others) input exempt info) (λ u q is c.
        subst (IfContinues IsThrough) (sym is) (unless_confirmation_drops others IsThrough u u.info (λ free.
        by_facts exempt u k.0 (grind (arith, c.told, u.facts.ct)) (c, free)))) s r y k.1

    by_result : (r : StepResult) → IfContinues IsThrough r → EntryCase (Ok a) (entry_of_packet now held p r)
    by_result (Continue s) through = through
    by_result (Drop cause s) through = by_drop (lookup_tuple_of s.info p) refl
      where
        by_drop : (o : Option Tuple) → lookup_tuple_of s.info p ≡ o → EntryCase (Ok a) (entry_of_packet now held p (Drop cause s))
        by_drop None none = unseen_so (rw none refl) refl (λ b t is read tracked accepted. accepted cause refl)
        by_drop (Some t) some =
            let read : tuple_of p ≡ Some t = grind arith in
            dropped_so p t read (rw (some, read) refl) refl cause refl

    path_so : (r : StepResult) → Path setup held p (on_arrival p input) r → EntryCase (Ok a) (entry_of_packet now held p r)
    path_so r x = by_result r
        (leads_then _ _ _ _ _
        (stage_leads setup input None Anything (λ info output es later h. h) stages.PreroutingRaw)
        (leads_then _ LookedUp _ (LookUp held p) _ look_up_leads after_look_up_leads) (on_arrival p input) r x
        (record { entered = refl; told = refl; so = tt }))

  by_carried : (x : Result ReceivedPacket Cause) (e : Entry) → EntryOf setup held now x e → EntryCase x e
  by_carried (Err cause) e is =
      subst (EntryCase (Err cause)) (sym is) (unseen_so refl refl (λ a t carries read tracked accepted. accepted cause refl))
  by_carried (Ok a) e q = subst (EntryCase (Ok a)) (sym q.2) (path_so a q.0 q.1)

module _ (setup : Setup) (history : List Entry) (r : Recorded) (e : Entry) (next : Next setup history r e) where
  abbrev held : List ConntrackEntry
  held = live_at_record setup history r

  abbrev now : ℕ
  now = moment_after history r

  pub entry_case : EntryCase setup held now (carried setup r) e
  entry_case = by_carried setup held now (carried setup r) e next.entry

  pub accepted_with : (a : ReceivedPacket) (t : Tuple) → ComesWith setup r e a t → IsAccepted e
      → AcceptedWith setup held now a t e
  accepted_with a t comes accepted = elim entry_case [
    | unseen_so is untold other ↦ absurd (other a t comes.carries comes.tuple comes.tracked accepted)
    | dropped_so p u read is untold cause dropped ↦ absurd (accepted cause dropped)
    | accepted_so b arrived u q ↦
        let one : b ≡ a = cc (arrived, comes.carries) in
        let moved = subst (λ (x : ReceivedPacket). AcceptedWith setup held now x u e) one q in
        subst (λ (x : Tuple). AcceptedWith setup held now a x e) (some_unique (tuple_of a.packet) u t moved.read comes.tuple) moved
  ]

  -- a dropped packet changes no connection
  pub dropped_none : (cause : Cause) → e.outcome ≡ outcomes.Dropped cause → e.tracked.change ≡ NoChange
  dropped_none cause dropped = grind (arith, entry_case)
