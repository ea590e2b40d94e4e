-- What a record does to connections that are a history's but for ids.
use Rattle.stepping.proofs.Names.{Arrival, Belonging, Cause, Confirmation, ConnId, ConntrackEntry, Continue, CtFacts, CtInfo, Drop, Entry, Err}
use Rattle.stepping.proofs.Names.{EventsAndTicks, Extends, HasProcessed, Hooks, HooksAndConfirm, IsTrue, List, Mapping, None, Notrack, Ok, Option, Path}
use Rattle.stepping.proofs.Names.{PathState, ReceivedPacket, Recorded, Result, SameExceptIds, Setup, Some, StepResult, Tuple, Unconfirmed, Untracked}
use Rattle.stepping.proofs.Names.{after_end, after_packet, ap, arith, arrival_of, belonging_by_tuple, belonging_of, belonging_without_id, belongs_in, carried}
use Rattle.stepping.proofs.Names.{change_of_packet, confirmation_of, confirmed, ct_info_by, entry_at, entry_of_packet, entry_without_packet, error_belonging}
use Rattle.stepping.proofs.Names.{error_ct_info, final_state, flags_in, goes_on, has_distinct_ids, held_by, inner_tuple_of, is_creation, limits_of, live_in}
use Rattle.stepping.proofs.Names.{live_list, looked_up_info, lookup_tuple_of, map, mappings_in, moment_after, moment_of, newest_in, others_beside, refl}
use Rattle.stepping.proofs.Names.{stops, subst, sym, tracked_as, tracked_of, transport_of, tuple_in, tuple_of, with_info, without_id, ℕ, ◌∙◌, ◌∷◌, ◌≡◌}
use Rattle.std.proofs.lemmas.Option.{none-some}
use Rattle.conntrack.specs.Updates as updates
use Rattle.stepping.specs.declared.process.RecordResult.{RecordResult}
use Rattle.stepping.proofs.OnePath.{not_both}
use Rattle.stepping.proofs.laws.extends_history.Goals as goal
use Rattle.stepping.proofs.laws.extends_history.Goals.{After-one_more_entry}

-- ---- what doesn't depend on ids

nameless : (t : Tuple) (a : Arrival) (confirmation : Confirmation) (b other : Belonging)
    → belonging_without_id b ≡ belonging_without_id other
    → (ct_info_by t b ≡ ct_info_by t other) × (error_ct_info b ≡ error_ct_info other)
    × (is_creation (change_of_packet b a confirmation) ≡ is_creation (change_of_packet other a confirmation))
nameless t a confirmation b other same = grind arith

module _ (c : After-one_more_entry) (held live : List ConntrackEntry) (same : SameExceptIds held live) where
  confirmed_same : (info : CtInfo) (s : PathState) → confirmed held info s ≡ confirmed live info s
  confirmed_same info s =
      let number = c.independent_of_ids.ensures.number held live same in
      let taken = λ (t : Tuple). c.independent_of_ids.ensures.taken held live t same in
      grind (arith, number, taken)

  beside : (setup : Setup) (s : PathState) (r : StepResult) → Hooks setup (mappings_in held) s r → Hooks setup (mappings_in live) s r
  beside setup s r hooks = subst (λ (m : List Mapping). Hooks setup m s r) (c.independent_of_ids-2.ensures held live same) hooks

  hooks_same : (setup : Setup) (s : PathState) (r : StepResult) → HooksAndConfirm setup held s r → HooksAndConfirm setup live s r
  hooks_same setup s r (stops cause t hooks) = stops cause t (beside setup s (Drop cause t) hooks)
  hooks_same setup s r (goes_on t q hooks confirm) =
      goes_on t q (beside setup s (Continue t) hooks) (confirm ∙ confirmed_same t.info t)

module _ (c : After-one_more_entry) (held live : List ConntrackEntry) (same : SameExceptIds held live)
    (d : IsTrue (has_distinct_ids held)) (d' : IsTrue (has_distinct_ids live)) (p : List ℕ) where
  belonging_same : (key : Option Tuple) → belonging_without_id (belonging_by_tuple held (flags_in (transport_of p)) key)
      ≡ belonging_without_id (belonging_by_tuple live (flags_in (transport_of p)) key)
  belonging_same None = refl
  belonging_same (Some t) = c.independent_of_ids.ensures.belonging held live t (flags_in (transport_of p)) same

  -- the state of the packet
  error_same : (inner : Option Tuple) → error_ct_info (error_belonging held inner) ≡ error_ct_info (error_belonging live inner)
  error_same None = refl
  error_same (Some t) = grind (arith, nameless, c.independent_of_ids.ensures.belonging held live)

  info_same : (ct : CtFacts) (key : Option Tuple) → tuple_of p ≡ key → looked_up_info ct held p ≡ looked_up_info ct live p
  info_same Notrack key is = refl
  info_same ct None is = rw is (error_same (inner_tuple_of p))
  info_same ct (Some t) is = rw is (nameless t (arrival_of 0 p t) Unconfirmed _ _ (belonging_same (tuple_of p))).0

  -- the other connections
  others_same : (key : Option Tuple) → map without_id (after_end (belonging_by_tuple held (flags_in (transport_of p)) key) held)
      ≡ map without_id (after_end (belonging_by_tuple live (flags_in (transport_of p)) key) live)
  others_same None = same
  others_same (Some t) = c.independent_of_ids.ensures.ended held live t (flags_in (transport_of p)) same d d'

  beside_same : (info : CtInfo) → map without_id (others_beside info held p) ≡ map without_id (others_beside info live p)
  beside_same Untracked = same
  beside_same info = others_same (tuple_of p)

  path_same : (setup : Setup) (s : PathState) (r : StepResult) → Path setup held p s r → Path setup live p s r
  path_same setup s r (stops cause t raw) = stops cause t raw
  path_same setup s r (goes_on t q raw (stops cause u look)) = absurd (not_both cause u _ look)
  path_same setup s r (goes_on t q raw (goes_on u q' look after)) =
      goes_on t q raw (goes_on u q'
      (look ∙ ap (λ (info : CtInfo). Continue (with_info info t)) (info_same t.facts.ct (tuple_of p) refl))
      (hooks_same c (others_beside u.info held p) (others_beside u.info live p) (beside_same u.info) setup u q' after))

  -- whether it begins a connection
  began_same : (now : ℕ) (key : Option Tuple) (confirmation : Confirmation)
      → is_creation (tracked_as now held p key confirmation).change ≡ is_creation (tracked_as now live p key confirmation).change
  began_same now None confirmation = refl
  began_same now (Some t) confirmation = (nameless t (arrival_of now p t) confirmation _ _ (belonging_same (tuple_of p))).2

-- a packet's tuple in its entry is its own
tuple_is : (info : CtInfo) (p : List ℕ) (t : Tuple) → lookup_tuple_of info p ≡ Some t → tuple_of p ≡ Some t
tuple_is Untracked p t is = absurd (none-some t is)
tuple_is info p t is = is

module _ (c : After-one_more_entry) (setup : Setup) (history : List Entry) (r : Recorded) (now : ℕ) (at : now ≡ moment_after history r)
    (held : List ConntrackEntry) (same : SameExceptIds held (live_list (limits_of setup) (tracked_of history) now))
    (d : IsTrue (has_distinct_ids held)) where
  abbrev live : List ConntrackEntry
  live = live_list (limits_of setup) (tracked_of history) now

  distinct : IsTrue (has_distinct_ids live)
  distinct = c.one_more_entry.ensures.distinct (limits_of setup) (tracked_of history) now

  none_same : map without_id held ≡ map without_id (live_list (limits_of setup) (entry_at now ∷ tracked_of history) now)
  none_same = same ∙ ap (map without_id) (sym (c.one_more_entry.ensures.none (limits_of setup) (tracked_of history) now))

  -- the connections held after a packet are those of the extended history, and its entry has the time of the record
  held_same : (id : ConnId) (p : List ℕ) (key : Option Tuple) (confirmation : Confirmation)
      → ((t : Tuple) → key ≡ Some t → tuple_of p ≡ Some t)
      → (now ≡ (tracked_as now live p key confirmation).moment) × (map without_id (held_by now id p key confirmation held)
      ≡ map without_id (live_list (limits_of setup) (tracked_as now live p key confirmation ∷ tracked_of history) now))
  held_same id p None confirmation own = (refl, none_same)
  held_same id p (Some t) confirmation own =
      let a = arrival_of now p t in
      let one : belonging_of held p ≡ belongs_in held t a.flags = ap (belonging_by_tuple held a.flags) (own t refl) in
      let other : belonging_of live p ≡ belongs_in live t a.flags = ap (belonging_by_tuple live a.flags) (own t refl) in (
        refl,
        ap (λ (b : Belonging). map without_id (after_packet b id a confirmation held)) one
            ∙ c.independent_of_ids.ensures.packet held live id _ a confirmation same d distinct
            ∙ ap (map without_id) (sym (c.one_more_entry.ensures.packet (limits_of setup) (tracked_of history) a confirmation))
            ∙ ap (λ (b : Belonging). map without_id (live_list (limits_of setup) (updates.tracked_packet b a confirmation ∷ tracked_of history)
            now)) (sym other),
      )

  extends : (new : List ConntrackEntry) (ended : RecordResult) (events : EventsAndTicks) (packet : List ℕ)
      (arrived : Result ReceivedPacket Cause) → arrived ≡ carried setup r
      → HasProcessed setup arrived now held new ended events.events packet
      → Extends setup history r new (newest_in (Some ended) now events packet)
  extends new ended events packet (Err cause) is has = record {
    e = entry_without_packet now cause;
    next = record { entry = rw (← is, ← at) refl };
    shown = rw (has.1, has.2, has.3) refl;
    held = ap (map without_id) has.0 ∙ none_same;
  }
  extends new ended events packet (Ok a) is has =
      let key = tuple_in a.packet has.r in
      let confirmation = confirmation_of has.r in
      let after = held_same has.follows.id a.packet key confirmation (tuple_is (final_state has.r).info a.packet) in
      let begun = has.follows.begins ∙ began_same c held live same d distinct a.packet now key confirmation in
      record {
        e = entry_of_packet now live a.packet has.r;
        next = record {
          entry = rw (← is, ← at) (has.r, path_same c held live same d distinct a.packet setup _ has.r has.path, refl);
        };
        shown = rw (has.ends, has.long, has.happened, has.sent, begun, ← after.0) refl;
        held = ap (map without_id) has.follows.held ∙ rw (← after.0) after.1;
      }

pub returns-clause-aged : goal.returns-clause-aged
returns-clause-aged c = λ setup history held now same rises.
    c.independent_of_ids.ensures.live (limits_of setup) held (live_in setup history) now same ∙ ap (map without_id)
    (sym (c.one_more_entry.ensures.later (limits_of setup) (tracked_of history) (moment_of history) now rises))

pub returns-clause-extended : goal.returns-clause-extended
returns-clause-extended c = λ setup history r now held new ended events packet at same d has. extends
    (goal.at.returns-clause-extended c).After-one_more_entry setup history r now at held same d new ended events packet _ refl has
