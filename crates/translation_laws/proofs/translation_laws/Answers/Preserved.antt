-- Facts of connections and mappings, and what each entry preserves of them: tuples in no two connections, mappings one to one,
-- tuples that packets can have, allocated ports.
use Rattle.translation_laws.proofs.Names.{◌++◌, All-contains, All-contains_itself, All-filter, Arrival, Belonging, Bool, Confirmation, Confirmed, ConnId}
use Rattle.translation_laws.proofs.Names.{ConnectionRef, ConntrackEntry, Contains, Contains-append_cases, Contains-append_left, Contains-append_right}
use Rattle.translation_laws.proofs.Names.{Contains-cases, Contains-head, Contains-push_cases, Contains-tail, Contains-unmap, Direction, DoesNotClash}
use Rattle.translation_laws.proofs.Names.{Endpoint, Ends, Entry, ExternalSource, Facts, Flags, Found, HookVerdict, Interface, IsHistory, IsHistoryOf}
use Rattle.translation_laws.proofs.Names.{IsOneToOne, IsTrue, Kind, List, Mapping, NewConnection, Next, None, NotFound, Option, Original, Other, PathState}
use Rattle.translation_laws.proofs.Names.{PlantTree, PortsMatchKind, ReceivedPacket, Recorded, Reply, Setup, Some, Touches, TrackedPacket, Tuple, Unconfirmed}
use Rattle.translation_laws.proofs.Names.{[], after_end, after_packet, alive_at, ap, arith, arrival_of, creation_in, begun_with, belongs_in, carried, cond}
use Rattle.translation_laws.proofs.Names.{cond_both, confirmation_by, connection_ref, does_end, false, false_from_ne_true, filter, first_free_port}
use Rattle.translation_laws.proofs.Names.{may_begin, given_to, has_ports, have_disjoint_tuples, inl, inr, interface_facts, inverse, inverse_kind}
use Rattle.translation_laws.proofs.Names.{is_incoming, is_live, is_port_held, is_some, is_taken, latest_choice, limits_of, listed, live_at_record, live_list}
use Rattle.translation_laws.proofs.Names.{mappings_in, mappings_of, mark_in, max_connections, moment_after, moment_of, new_connection_of, not, of_original}
use Rattle.translation_laws.proofs.Names.{of_reply, or_else, or_left, or_right, order_of, port_choice_by, port_choice_for, port_choice_in, port_of, range_of}
use Rattle.translation_laws.proofs.Names.{refl, reply_to, same_Some, same_id, same_tuple, same_tuple-true, some_of_map, source_of, subst, sym, touch_of}
use Rattle.translation_laws.proofs.Names.{touched, touched_at, tracked_of, true, tuple_of, Creation, outgoing, tracked_connection, with_destination_nat}
use Rattle.translation_laws.proofs.Names.{with_source_mapping, with_source_nat, ℕ, ◌∙◌, ◌∷◌, ◌≡◌, ◌≢◌, ◌≤◌, ◌⊎◌}
use Rattle.nat_mapping.proofs.Equal.{mapping_test}
use Rattle.nat_mapping.proofs.Lists.{found_among, none_such}
use Rattle.nat_mapping.proofs.Lookups.{port_finds}
use Rattle.port_pool.specs.Candidates.{candidates, same_class_and_parity}
use Rattle.port_pool.specs.declared.range.CandidateRange.{CandidateRange}
use Rattle.rule_meaning.specs.declared.event.PortInterval.{PortInterval}
use Rattle.std.specs.Prelude.{length, nat_le}
use Rattle.translation_laws.proofs.translation_laws.Goals.{After-no_fault as Laws}
use Rattle.translation_laws.proofs.Paths.{AcceptedWith, EntryCase, IsLookedUp, IsNone, IsTranslated, accepted_so, begins, belongs_by, beside, dropped_so}
use Rattle.translation_laws.proofs.Paths.{entry_case, is_invalid, refreshes, turned_by, unseen_so}
use Rattle.history.specs.declared.outcome.Cause.TheVariants as causes
use Rattle.conntrack.specs.Updates as updates

-- ==== The mappings that connections hold.

abbrev pub HasMapping : ConntrackEntry → Mapping → Type 0
HasMapping h m = (h.source ≡ Some m) ⊎ (h.dest ≡ Some m)

among_its : (h : ConntrackEntry) (m : Mapping) → HasMapping h m → Contains (mappings_of h) m
among_its h m has = grind arith

-- a mapping is live where a connection holds it
holder_of : (held : List ConntrackEntry) (m : Mapping) → Contains (mappings_in held) m → (h : ConntrackEntry)
    × Contains held h × HasMapping h m
holder_of [] m among = absurd (omega (arith, among.1))
holder_of (x ∷ held) m among = elim (Contains-append_cases (mappings_of x) (mappings_in held) m among) [
  | inl first ↦ (x, Contains-head x held, grind arith)
  | inr later ↦ let r = holder_of held m later in (r.0, Contains-tail x held r.0 r.1, r.2)
]

pub mapping_of_holder : (held : List ConntrackEntry) (h : ConntrackEntry) (m : Mapping) → Contains held h
    → HasMapping h m → Contains (mappings_in held) m
mapping_of_holder [] h m among has = absurd (omega (arith, among.1))
mapping_of_holder (x ∷ held) h m among has =
    grind (arith, Contains-cases, Contains-append_left, Contains-append_right, among_its, mapping_of_holder held h m)

-- what is kept of a connection as long as it is alive
abbrev pub created : ConntrackEntry → Creation
created h = record { original = h.original; reply = h.reply; source = h.source; dest = h.dest }

-- each of the former was among the latter
abbrev pub AreOf : List ConntrackEntry → List ConntrackEntry → Type 0
AreOf left held = (h : ConntrackEntry) → Contains left h → (g : ConntrackEntry) × Contains held g × (created g ≡ created h)

filter_of : (p : ConntrackEntry → Bool) (held : List ConntrackEntry) → AreOf (filter p held) held
filter_of p held h among = (
  h,
  All-contains (Contains held) (filter p held) h (All-filter p (Contains held) held (All-contains_itself held)) among,
  refl,
)

touched_of : (id : ConnId) (direction : Direction) (flags : Flags) (mark now : ℕ) (held : List ConntrackEntry)
    → AreOf (touched_at id direction flags mark now held) held
touched_of id direction flags mark now held h among =
    let u = Contains-unmap (λ x. cond (same_id id x) (touched direction flags mark now x) x) held h among in
    let kept : ConntrackEntry → Type 0 = λ x. created u.0 ≡ created x in
    (u.0, u.1, subst kept u.2 (cond_both (same_id id u.0) _ u.0 kept (λ _. refl) (λ _. refl)))

mappings_of_theirs : (left held : List ConntrackEntry) → AreOf left held → (m : Mapping) → Contains (mappings_in left) m
    → Contains (mappings_in held) m
mappings_of_theirs left held of m among =
    let r = holder_of left m among in
    let g = of r.0 r.1 in
    mapping_of_holder held g.0 m g.1 (subst (λ (c : Creation). (c.source ≡ Some m) ⊎ (c.dest ≡ Some m)) (sym g.2) r.2)

-- ==== A mapping by its parts.

abbrev pub mapping_at : Kind → Endpoint → Endpoint → Mapping
mapping_at kind internal external = record { kind = kind; internal = internal; external = external }

abbrev pub end_at : ℕ → ℕ → Endpoint
end_at address port = record { address = address; port = port }

-- ==== A packet belongs to the one connection that has its tuple.

pub taken_by : (t : Tuple) (held : List ConntrackEntry) (h : ConntrackEntry) → Contains held h → is_incoming t h ≡ true
    → is_taken t held ≡ true
taken_by t [] h among incoming = absurd (omega (arith, among.1))
taken_by t (x ∷ held) h among incoming = grind (arith, Contains-cases, or_left, or_right, taken_by t held h)

pub parts : (x : ConntrackEntry) (held : List ConntrackEntry) → have_disjoint_tuples (x ∷ held) ≡ true
    → (is_taken x.original held ≡ false) × (is_taken x.reply held ≡ false) × (have_disjoint_tuples held ≡ true)
parts x held apart = grind arith

-- no tuple of the first is one of those behind it
pub not_behind : (x : ConntrackEntry) (held : List ConntrackEntry) (t : Tuple)
    → have_disjoint_tuples (x ∷ held) ≡ true → is_incoming t x ≡ true → is_taken t held ≡ false
not_behind x held t apart incoming =
    grind (arith, parts x held apart, same_tuple-true x.original t, same_tuple-true x.reply t, incoming)

-- only one connection has a tuple
only_one : (t : Tuple) (held : List ConntrackEntry) (g h : ConntrackEntry) → have_disjoint_tuples held ≡ true
    → Contains held g → Contains held h → is_incoming t g ≡ true → is_incoming t h ≡ true → g ≡ h
only_one t [] g h apart one other mine its = absurd (omega (arith, one.1))
only_one t (x ∷ held) g h apart one other mine its =
    grind (arith, Contains-cases, parts x held apart, not_behind x held t apart, taken_by t held, only_one t held g h)

-- ==== The connection that a packet belongs to.

pub found_by : (h : ConntrackEntry) (ended original : Bool) (place : ConnectionRef) → cond ended (Ends h.id) (cond original
    (Found (connection_ref h Original)) (Found (connection_ref h Reply))) ≡ Found place
    → (ended ≡ false) × (h.id ≡ place.id)
    × (cond original (Touches h.id.0 Original) (Touches h.id.0 Reply) ≡ Touches place.id.0 place.direction)
    × (outgoing (tracked_connection place) ≡ cond original (inverse h.reply) (inverse h.original))
found_by h ended original place e = grind arith

module _ (t : Tuple) (held : List ConntrackEntry) (flags : Flags) where
  abbrev by_original : ConntrackEntry → Bool
  by_original h = same_tuple h.original t

  abbrev by_reply : ConntrackEntry → Bool
  by_reply h = same_tuple h.reply t

  -- no connection has its tuple, or it belongs to one that does
  data ItsHolder : Type 0 where
    no_holder : belongs_in held t flags ≡ NotFound
        → ((h : ConntrackEntry) → Contains held h → is_incoming t h ≡ true → ⊥) → ItsHolder
    holder : (h : ConntrackEntry) → Contains held h → is_incoming t h ≡ true
        → belongs_in held t flags ≡ given_to h t flags → ItsHolder

  its_holder : ItsHolder
  its_holder = by_searches (of_original held t) (of_reply held t) refl refl
    where
      by_searches : (x y : Option ConntrackEntry) → of_original held t ≡ x → of_reply held t ≡ y → ItsHolder
      by_searches (Some h) y o r =
          let so = found_among by_original held h o in
          holder h so.0 (or_left (by_original h) (by_reply h) so.1) (rw (o, so.1) refl)
      by_searches None (Some h) o r =
          let so = found_among by_reply held h r in
          holder h so.0 (or_right (by_original h) (by_reply h) so.1)
          (rw (o, r, false_from_ne_true (by_original h) (none_such by_original held h o so.0)) refl)
      by_searches None None o r =
          no_holder (rw (o, r) refl) (λ h among incoming. grind (arith, none_such by_original held h o, none_such by_reply held h r))

  -- where no tuple is in two connections
  pub given_one : (h : ConntrackEntry) → have_disjoint_tuples held ≡ true → Contains held h
      → is_incoming t h ≡ true → belongs_in held t flags ≡ given_to h t flags
  given_one h apart among incoming = elim its_holder [
    | no_holder is none ↦ absurd (none h among incoming)
    | holder g its first is ↦
        is ∙ ap (λ (x : ConntrackEntry). given_to x t flags) (only_one t held g h apart its among first incoming)
  ]

  module _ (place : ConnectionRef) where
    -- one has its tuple, and isn't removed by it
    pub found_one : belongs_in held t flags ≡ Found place → (h : ConntrackEntry) × Contains held h × IsTrue (is_incoming t h)
        × (does_end h t flags ≡ false) × (h.id ≡ place.id) × (touch_of h t ≡ Touches place.id.0 place.direction)
    found_one e = elim its_holder [
      | no_holder is none ↦ cc
      | holder h among incoming is ↦
          let so = found_by h (does_end h t flags) (same_tuple h.original t) place (sym is ∙ e) in
          (h, among, incoming, so.0, so.1, so.2)
    ]

-- ==== The shape of a tuple and of a mapping.

-- ---- a port of a tuple is 0 where its kind has none

abbrev pub IsShaped : Tuple → Type 0
IsShaped t = PortsMatchKind t.kind t.source.port t.destination.port

pub inverse_shaped : (t : Tuple) → IsShaped t → IsShaped (inverse t)
inverse_shaped t h = grind arith

-- one that is read
pub tuple_shaped : (p : List ℕ) (t : Tuple) → tuple_of p ≡ Some t → IsShaped t
tuple_shaped p t e = grind arith

pub ported_suits : (kind : Kind) (from to : ℕ) → has_ports kind ≡ true → PortsMatchKind kind from to
ported_suits kind from to h = grind arith

-- ---- the external port of a mapping is 0 where its kind has neither ports nor identifiers

abbrev pub OutsideSuits : Kind → ℕ → Type 0
OutsideSuits (Other number) port = port ≡ 0
OutsideSuits _ port = Unit {0}

abbrev pub IsPlain : Mapping → Type 0
IsPlain m = OutsideSuits m.kind m.external.port

candidate_plain : (kind : Kind) (s : ℕ) (range : Option CandidateRange) (port : ℕ)
    → Contains (candidates (order_of kind) s range) port → OutsideSuits kind port
unfolding candidates
candidate_plain kind s range port among = grind (arith, Contains-cases)

chosen_suits : (kind : Kind) (from to port : ℕ) → may_begin kind ≡ true → PortsMatchKind kind from to
    → OutsideSuits kind port → PortsMatchKind kind port to
chosen_suits kind from to port new h o = grind arith

-- ==== What NAT gives a new connection.

-- by what an entry tells of a mapping's port: it was live before, or has the class and parity of the internal one
abbrev pub PortChosen : List Mapping → Option Bool → Mapping → Type 0
PortChosen mappings port_choice m = IsPlain m × (port_choice ≡ None → Contains mappings m)
    × (port_choice ≡ Some false → has_ports m.kind ≡ true → same_class_and_parity m.internal.port m.external.port ≡ true)

-- behind destination NAT
pub record IsTurned (mappings : List Mapping) (t : Tuple) (d : NewConnection) : Type 0 where
  pub kind : d.tuple.kind ≡ t.kind
  pub none : d.source ≡ None
  pub dest : (m : Mapping) → d.dest ≡ Some m → Contains mappings m
  pub shape : IsShaped t → IsShaped d.tuple

-- and behind source NAT
pub record IsDrafted (mappings : List Mapping) (t : Tuple) (d : NewConnection) : Type 0 where
  pub kind : d.tuple.kind ≡ t.kind
  pub dest : (m : Mapping) → d.dest ≡ Some m → Contains mappings m
  pub one : IsOneToOne (listed d.source ++ mappings)
  pub shaped : IsShaped d.tuple
  pub source : (m : Mapping) → d.source ≡ Some m → PortChosen mappings (port_choice_in mappings d.has_port_range d.source) m

module _ (laws : Laws) where
  -- ---- behind destination NAT

  module _ (network : PlantTree) (mappings : List Mapping) (f : Facts) (t : Tuple) where
    pub turned_so : (verdict : HookVerdict) → IsTurned mappings t (with_destination_nat network mappings f (new_connection_of t) verdict)
    turned_so verdict = grind arith

  -- ---- behind source NAT

  candidate_alike : (kind : Kind) (s : ℕ) (ports : Option PortInterval) (port : ℕ) → is_some ports ≡ false → has_ports kind ≡ true
      → Contains (candidates (order_of kind) s (range_of ports)) port → same_class_and_parity s port ≡ true
  candidate_alike kind s ports port free has among = grind (arith, laws.candidates_keep_class_and_parity.ensures.candidates s port)

  module _ (mappings : List Mapping) (one : IsOneToOne mappings) (plain : (m : Mapping) → Contains mappings m → IsPlain m) where
    -- a source that is mapped gets the port that it has there, or the first free one
    port_so : (kind : Kind) (internal : Endpoint) (x : ExternalSource) (port : ℕ)
        → source_of kind internal x.address (range_of x.ports) mappings ≡ Some port
        → PortChosen mappings (port_choice_by (is_some x.ports) (port_of kind internal x.address mappings))
        (mapping_at kind internal (end_at x.address port))
    port_so kind internal x port e = by_port (port_of kind internal x.address mappings) refl e
      where
        by_port : (o : Option ℕ) → port_of kind internal x.address mappings ≡ o
            → or_else o (first_free_port kind internal x.address (range_of x.ports) mappings) ≡ Some port
            → PortChosen mappings (port_choice_by (is_some x.ports) o) (mapping_at kind internal (end_at x.address port))
        by_port (Some p) there same =
            let among = (port_finds mappings one).some (record { kind = kind; internal = internal; address = x.address }) port (there ∙ same)
            in
            (plain _ among, λ untold. among, λ told. cc)
        by_port None there found =
            let among = (found_among (λ q. not (is_port_held kind x.address mappings q))
            (candidates (order_of kind) internal.port (range_of x.ports)) port found).0 in (
              candidate_plain kind internal.port (range_of x.ports) port among,
              λ untold. cc,
              λ told ports. candidate_alike kind internal.port x.ports port (same_Some _ false told) ports among,
            )

    module _ (t : Tuple) (new : may_begin t.kind ≡ true) (shaped : IsShaped t) (d : NewConnection)
        (turned : IsTurned mappings t d) where
      pub drafted : (x : Option ExternalSource) (after : NewConnection) → with_source_nat mappings d x ≡ Some after
          → IsDrafted mappings t after
      drafted None after e = grind (arith, turned, one)
      drafted (Some x) after e =
          let r = some_of_map (with_source_mapping d x)
          (source_of d.tuple.kind d.tuple.source x.address (range_of x.ports) mappings) after e in
          let so = port_so d.tuple.kind d.tuple.source x r.0 r.1 in
          subst (IsDrafted mappings t) r.2 (record {
            kind = turned.kind;
            dest = turned.dest;
            one = laws.stays_one_to_one.ensures.source mappings d.tuple.kind d.tuple.source x.address (range_of x.ports) r.0 one r.1;
            shaped = chosen_suits d.tuple.kind d.tuple.source.port d.tuple.destination.port r.0 (ap may_begin turned.kind ∙ new)
                (turned.shape shaped) so.0;
            source = λ m of. subst
                (PortChosen mappings (port_choice_by (is_some x.ports) (port_of d.tuple.kind d.tuple.source x.address mappings)))
                (same_Some _ m of) so;
          })

-- ==== The latest allocation of a mapping's port.

-- it is this entry's, or an earlier one
chosen_here : (m : Mapping) (e : Entry) (history : List Entry) (has_port_range : Bool)
    → latest_choice m (e ∷ history) ≡ Some has_port_range
    → ((creation_in e.tracked.change).source ≡ Some m) × (e.port_choice ≡ Some has_port_range)
    ⊎ (latest_choice m history ≡ Some has_port_range)
chosen_here m e history has_port_range latest = grind arith

-- ==== The invariant.

-- a port of this mapping was allocated
abbrev pub IsAllocated : List Entry → Mapping → Type 0
IsAllocated history m = IsPlain m × (latest_choice m history ≢ None)

-- the tuples of a connection
pub record HasShapes (from back : Tuple) : Type 0 where
  pub kinds : back.kind ≡ inverse_kind from.kind
  pub original : IsShaped from
  pub reply : IsShaped back

-- the mappings held, and the ports that entries allocated
pub record Mapped (history : List Entry) (held : List ConntrackEntry) : Type 0 where
  pub one : IsOneToOne (mappings_in held)
  -- a port allocated without a range has the class and parity of the internal one
  pub class : (m : Mapping) → has_ports m.kind ≡ true → latest_choice m history ≡ Some false
      → IsTrue (same_class_and_parity m.internal.port m.external.port)
  pub allocated : (m : Mapping) → Contains (mappings_in held) m → IsAllocated history m
  pub shaped : (h : ConntrackEntry) → Contains held h → HasShapes h.original h.reply

pub record Preserved (history : List Entry) (held : List ConntrackEntry) : Type 0 where
  pub apart : IsTrue (have_disjoint_tuples held)
  pub mapped : Mapped history held

-- the connection that a packet begins
abbrev begun_by : ConnId → Arrival → ℕ → NewConnection → ConntrackEntry
begun_by id p mark d =
    begun_with id (record {
      original = p.tuple;
      reply = reply_to d;
      mark = mark;
      last = p.moment;
      source = d.source;
      dest = d.dest;
    }) p.flags

module _ (laws : Laws) (history : List Entry) (held : List ConntrackEntry) (k : Mapped history held) where
  abbrev mappings : List Mapping
  mappings = mappings_in held

  -- connections that were among these
  still : (left : List ConntrackEntry) → AreOf left held → Mapped history left
  still left of = record {
    one = laws.stays_one_to_one.ensures.within (mappings_in left) mappings (mappings_of_theirs left held of) k.one;
    class = k.class;
    allocated = λ m among. k.allocated m (mappings_of_theirs left held of m among);
    shaped = λ h among. let g = of h among in
        subst (λ (c : Creation). HasShapes c.original c.reply) g.2 (k.shaped g.0 g.1);
  }

  filtered : (p : ConntrackEntry → Bool) → Mapped history (filter p held)
  filtered p = still (filter p held) (filter_of p held)

  pub ended : (b : Belonging) → Mapped history (after_end b held)
  ended (Ends id) = filtered (λ h. not (same_id id h))
  ended _ = k

  -- what NAT gives the first packet of a connection beside these
  pub its_draft : (setup : Setup) (input : Interface) (t : Tuple) → may_begin t.kind ≡ true → IsShaped t → (s : PathState)
      → (n : IsTranslated setup mappings input (new_connection_of t) s) → IsDrafted mappings t n.left
  its_draft setup input t new shaped s n =
      drafted laws mappings k.one (λ m among. (k.allocated m among).0) t new shaped
      (turned_by setup mappings input (new_connection_of t) n.asked)
      (turned_so laws setup.network mappings n.asked.facts t n.asked.verdict) n.external n.left n.drafted

  module _ (e : Entry) where
    still_allocated : (m : Mapping) → IsAllocated history m → IsAllocated (e ∷ history) m
    still_allocated m so = (so.0, grind arith)

    -- an entry that begins no connection with a mapping of its source
    unchosen : (creation_in e.tracked.change).source ≡ None → Mapped (e ∷ history) held
    unchosen none = record {
      one = k.one;
      class = λ m ports latest. k.class m ports (rw none at latest);
      allocated = λ m among. still_allocated m (k.allocated m among);
      shaped = k.shaped;
    }

    -- one that begins this connection beside the others
    module _ (id : ConnId) (p : Arrival) (mark : ℕ) (d : NewConnection) (is : (creation_in e.tracked.change).source ≡ d.source)
        (shaped : IsShaped p.tuple) (draft : IsDrafted mappings p.tuple d)
        (chosen : e.port_choice ≡ port_choice_in mappings d.has_port_range d.source) where
      -- a mapping held then is that of its source, or was live before
      source_or_live : (m : Mapping) → Contains (mappings_in (held ++ begun_by id p mark d ∷ [])) m
          → (d.source ≡ Some m) ⊎ Contains mappings m
      source_or_live m among =
          let r = holder_of (held ++ begun_by id p mark d ∷ []) m among in
          grind (arith, Contains-push_cases held (begun_by id p mark d) r.0 r.1, mapping_of_holder held r.0 m, r.2, draft.dest m)

      -- the port of its source was allocated now, or was live before
      source_so : (m : Mapping) → d.source ≡ Some m → PortChosen mappings e.port_choice m
      source_so m of = subst (λ (o : Option Bool). PortChosen mappings o m) (sym chosen) (draft.source m of)

      source_allocated : (m : Mapping) → d.source ≡ Some m → (o : Option Bool) → e.port_choice ≡ o → IsAllocated (e ∷ history) m
      source_allocated m of None untold = still_allocated m (k.allocated m ((source_so m of).1 untold))
      source_allocated m of (Some named) told = (
        (source_so m of).0,
        grind (arith, is, of, told, mapping_test.same m),
      )

      begun_mapped : Mapped (e ∷ history) (held ++ begun_by id p mark d ∷ [])
      begun_mapped =
          let new = begun_by id p mark d in
          let all = listed d.source ++ mappings in
          record {
            one = laws.stays_one_to_one.ensures.within (mappings_in (held ++ new ∷ [])) all (λ m among. elim (source_or_live m among) [
              | inl of ↦ Contains-append_left (listed d.source) mappings m (rw of (Contains-head m []))
              | inr live ↦ Contains-append_right (listed d.source) mappings m live
            ]) draft.one;
            class = λ m ports latest. elim (chosen_here m e history false latest) [
              | inl here ↦ (source_so m (sym is ∙ here.0)).2 here.1 ports
              | inr earlier ↦ k.class m ports earlier
            ];
            allocated = λ m among. elim (source_or_live m among) [
              | inl of ↦ source_allocated m of e.port_choice refl
              | inr live ↦ still_allocated m (k.allocated m live)
            ];
            shaped = λ h among. elim (Contains-push_cases held new h among) [
              | inl old ↦ k.shaped h old
              | inr last ↦ subst (λ (x : ConntrackEntry). HasShapes x.original x.reply) last (record {
                kinds = ap inverse_kind draft.kind;
                original = shaped;
                reply = inverse_shaped d.tuple draft.shaped;
              })
            ];
          }

-- ==== It is true in each history, at its time and at each later one.

abbrev source_begun : TrackedPacket → Option Mapping
source_begun t = (creation_in t.change).source

-- a connection that isn't refused is answered by a tuple that is free
unrefused : (full taken : Bool) → cond full (Some causes.Full) (cond taken (Some causes.Clash) None) ≡ None → taken ≡ false
unrefused full taken k = grind arith

module _ (laws : Laws) (setup : Setup) where
  abbrev Holds : List Entry → Type 0
  Holds history = (now : ℕ) → moment_of history ≤ now → Preserved history (alive_at setup history now)

  -- one record more
  module _ (history : List Entry) (r : Recorded) (e : Entry) (before : Holds history) where
    abbrev held : List ConntrackEntry
    held = live_at_record setup history r

    abbrev m : ℕ
    m = moment_after history r

    here : Preserved history held
    here = before m (omega arith)

    abbrev id : ConnId
    id = record { 0 = length (tracked_of history) }

    -- after a packet that belongs so
    abbrev KeptAfter : Belonging → Arrival → Confirmation → Type 0
    KeptAfter b x confirmation = DoesNotClash b confirmation held × Mapped (e ∷ history) (after_packet b id x confirmation held)

    unconfirmed : (b : Belonging) (x : Arrival) → e.tracked ≡ updates.tracked_packet b x Unconfirmed → KeptAfter b x Unconfirmed
    unconfirmed (Found place) x is = (tt, unchosen laws history held here.mapped e (ap source_begun is))
    unconfirmed b x is = (tt, unchosen laws history (after_end b held) (ended laws history held here.mapped b) e (ap source_begun is))

    begun_so : (b : Belonging) → IsNone b → (x : Arrival) (mark : ℕ) (d : NewConnection)
        → e.tracked ≡ updates.tracked_packet b x (Confirmed mark (reply_to d) d.source d.dest) → IsShaped x.tuple
        → IsDrafted (mappings_in (after_end b held)) x.tuple d
        → e.port_choice ≡ port_choice_in (mappings_in (after_end b held)) d.has_port_range d.source
        → is_taken (reply_to d) (after_end b held) ≡ false → KeptAfter b x (Confirmed mark (reply_to d) d.source d.dest)
    begun_so (Found place) none x mark d is shaped draft chosen free = absurd none
    begun_so b none x mark d is shaped draft chosen free = (
      free,
      begun_mapped laws history (after_end b held) (ended laws history held here.mapped b) e id x mark d (ap source_begun is)
          shaped draft chosen,
    )

    accepted_kept : (a : ReceivedPacket) (t : Tuple) (q : AcceptedWith setup held m a t e)
        → IsLookedUp setup held a (belongs_by held a.packet t) t q.end
        → KeptAfter (belongs_by held a.packet t) (arrival_of m a.packet t) (confirmation_by q.end.info (mark_in q.end.facts.ct))
    accepted_kept a t q (refreshes place found is) =
        let none : source_begun e.tracked ≡ None = rw (is, found) at (ap source_begun q.tracked) in
        let x = arrival_of m a.packet t in
        let k = still laws history held here.mapped _ (touched_of place.id place.direction x.flags (mark_in q.end.facts.ct) m held) in
        rw (is, found) (tt, unchosen laws history _ k e none)
    accepted_kept a t q (is_invalid none new is) = rw is (unconfirmed _ _ (rw is at q.tracked))
    accepted_kept a t q (begins none new n free) =
        let b = belongs_by held a.packet t in
        let shaped = tuple_shaped a.packet t q.read in
        rw n.is (begun_so b none (arrival_of m a.packet t) (mark_in q.end.facts.ct) n.left (rw n.is at q.tracked) shaped
        (its_draft laws history (after_end b held) (ended laws history held here.mapped b) setup
        (interface_facts setup.network a.interface) t new shaped q.end n)
        (q.port_choice ∙ ap (port_choice_for (beside held a.packet t)) n.is)
        (unrefused (nat_le max_connections (length (after_end b held))) (is_taken (reply_to n.left) (after_end b held)) free))

    -- the entry is of this moment, and at once so it is
    abbrev AtOnce : Type 0
    AtOnce = (e.tracked.moment ≡ m) × Preserved (e ∷ history) (alive_at setup (e ∷ history) m)

    after_seen : (p : List ℕ) (t : Tuple) (confirmation : Confirmation)
        → e.tracked ≡ updates.tracked_packet (belongs_by held p t) (arrival_of m p t) confirmation
        → KeptAfter (belongs_by held p t) (arrival_of m p t) confirmation → AtOnce
    after_seen p t confirmation is k =
        let limits = limits_of setup in
        let tracked = tracked_of history in (
          ap (λ (x : TrackedPacket). x.moment) is,
          subst (λ (x : TrackedPacket). Preserved (e ∷ history) (live_list limits (x ∷ tracked) m)) (sym is)
              (rw (laws.one_more_entry.ensures.packet limits tracked (arrival_of m p t) confirmation) (record {
                apart = laws.tuples_stay_disjoint.ensures.packet held id (arrival_of m p t) confirmation
                    (laws.one_more_entry.ensures.distinct limits tracked m) here.apart k.0;
                mapped = k.1;
              })),
        )

    at_once : EntryCase setup held m (carried setup r) e → AtOnce
    at_once (unseen_so is untold other) = (
      ap (λ (x : TrackedPacket). x.moment) is,
      subst (λ (x : TrackedPacket). Preserved (e ∷ history) (live_list (limits_of setup) (x ∷ tracked_of history) m)) (sym is)
          (rw (laws.one_more_entry.ensures.none (limits_of setup) (tracked_of history) m)
          (record { apart = here.apart; mapped = unchosen laws history held here.mapped e (ap source_begun is) })),
    )
    at_once (dropped_so p t read is untold cause dropped) = after_seen p t Unconfirmed is (unconfirmed _ _ is)
    at_once (accepted_so a arrived t q) = after_seen a.packet t _ q.tracked (accepted_kept a t q q.state)

    next_holds : Next setup history r e → Holds (e ∷ history)
    next_holds n now le =
        let so = at_once (entry_case setup history r e n) in
        let reached : m ≤ now = subst (λ (i : ℕ). i ≤ now) so.0 le in
        subst (Preserved (e ∷ history)) (sym (laws.one_more_entry.ensures.later (limits_of setup) (tracked_of (e ∷ history)) m now reached)) (record {
          apart = laws.tuples_stay_disjoint.ensures.live (limits_of setup) _ now so.1.apart;
          mapped = filtered laws (e ∷ history) _ so.1.mapped (is_live (limits_of setup) now);
        })

  grown : (records : List Recorded) (history after : List Entry) → IsHistoryOf setup history records after
      → Holds history → Holds after
  grown [] history after g h = subst Holds (sym g) h
  grown (r ∷ records) history after g h = grown records (g.0 ∷ history) after g.2 (next_holds history r g.0 h g.1)

  pub preserved : (history : List Entry) → IsHistory setup history → Holds history
  preserved history is = grown is.records [] history is.is_history (λ now le. record {
    apart = refl;
    mapped = grind arith;
  })
