-- The effect of one packet on a table's entries and on a history's connections.
use Rattle.conntrack.proofs.Names.{Arrival, Belonging, Bool, Confirmation, Confirmed, ConnId, Connection, ConnectionRef, ConntrackEntry, Direction}
use Rattle.conntrack.proofs.Names.{DoesNotClash, Ends, Flags, Found, IsNoneLater, Limits, List, None, NotFound, Option, Original, Reply, Some}
use Rattle.conntrack.proofs.Names.{TrackedPacket, Tuple, Unconfirmed, [], after_end, after_packet, any_of_map, ap, arith, begun_with, belonging_by}
use Rattle.conntrack.proofs.Names.{belonging_without_id, belongs, belongs_in, connection_of, connection_ref, entry_at}
use Rattle.conntrack.proofs.Names.{tracked_packet, filter, filter-append, find}
use Rattle.conntrack.proofs.Names.{has_distinct_ids, has_id, has_tuple, have_disjoint_tuples, is_incoming, is_live, is_taken, length, length-map, limit_of}
use Rattle.conntrack.proofs.Names.{live_at, live_list, lt-ltb, ltb-true, map, map-append, nat_tests, no_flags, no_tuple, of_original, of_reply, refl, same_id}
use Rattle.conntrack.proofs.Names.{subst, sym, touched, touched_at, true, with_begun, without_id, ℕ, ◌++◌, ◌-◌, ◌∙◌, ◌∷◌, ◌≡◌, ◌≤◌}
use Rattle.std.proofs.lemmas.Simd.{map-map}
use Rattle.conntrack.proofs.Ids.{apart-filter, apart-push, apart-touched_at, changed_at_none, distinct-filter}
use Rattle.conntrack.proofs.Histories.{live_list-unended, unended, unended-distinct, unended_after}
use Rattle.conntrack.proofs.Lists.{filter-map, filter-swap, filter_again, list_any-filter}
use Rattle.conntrack.proofs.Lookups.{at_first, at_first-blind, changed_first, ended_is_free, found_is_held, nowhere_is_free, same_belonging, without_first}

-- the entry that a lookup found is in the list
abbrev pub IsFoundIn : Belonging → List ConntrackEntry → Type 0
IsFoundIn b held = (found : ConnectionRef) → b ≡ Found found → has_id found.id held ≡ true

-- ---- the live entries, at a later moment and after a packet

pub live_at-later : (limits : Limits) (now later : ℕ) (held : List ConntrackEntry) → now ≤ later
    → live_at limits later (live_at limits now held) ≡ live_at limits later held
live_at-later limits now later held le = filter_again (is_live limits later) (is_live limits now) held
    (λ x h. lt-ltb _ _ (omega (arith, ltb-true (later - x.last) (limit_of limits x) h)))

-- a connection is live at the moment of its packet
pub live_at_last : (limits : Limits) (now : ℕ) (h : ConntrackEntry) → h.last ≡ now → is_live limits now h ≡ true
live_at_last limits now h e = grind (arith, lt-ltb, h.original.kind, limits.positive)

-- a touch of a live entry, at that moment
module _ (limits : Limits) (id : ConnId) (direction : Direction) (flags : Flags) (mark now : ℕ) where
  pub live_at-touched_at : (held : List ConntrackEntry) → has_distinct_ids held ≡ true
      → has_id id (live_at limits now held) ≡ true
      → live_at limits now (touched_at id direction flags mark now held)
      ≡ touched_at id direction flags mark now (live_at limits now held)
  live_at-touched_at [] d t = refl
  live_at-touched_at (x ∷ held) d t =
      let live = live_at_last limits now (touched direction flags mark now x) refl in
      let none = changed_at_none id (touched direction flags mark now) in
      let off = list_any-filter (same_id x.id) (is_live limits now) held in
      grind (arith, nat_tests, live, none held, none (live_at limits now held), off, live_at-touched_at held)

live_begun : (limits : Limits) (id : ConnId) (p : Arrival) (confirmation : Confirmation) (held : List ConntrackEntry)
    → live_at limits p.moment (with_begun id p confirmation held)
    ≡ with_begun id p confirmation (live_at limits p.moment held)
live_begun limits id p Unconfirmed held = refl
live_begun limits id p (Confirmed mark reply source dest) held =
    let connection : Connection =
    record { original = p.tuple; reply = reply; mark = mark; last = p.moment; source = source; dest = dest } in
    rw (filter-append, live_at_last limits p.moment (begun_with id connection p.flags) refl) refl

pub live_after : (limits : Limits) (b : Belonging) (id : ConnId) (p : Arrival) (confirmation : Confirmation)
    (held : List ConntrackEntry) → has_distinct_ids held ≡ true → IsFoundIn b (live_at limits p.moment held) →
    live_at limits p.moment (after_packet b id p confirmation held) ≡ after_packet b id p confirmation (live_at limits p.moment held)
live_after limits b id p confirmation held d h = grind (arith, live_at-touched_at, live_begun, filter-swap, h)

-- ---- ids

begun_blind : (i : ConnId) (p : Arrival) (confirmation : Confirmation) (held : List ConntrackEntry)
    → map without_id (with_begun i p confirmation held) ≡ with_begun (record { 0 = 0 }) p confirmation (map without_id held)
begun_blind i p confirmation held = grind (arith, map-append)

-- what a packet does to the entries by what its lookup found, whatever the ids are
abbrev after_found : Belonging → Arrival → Confirmation → List ConntrackEntry → List ConntrackEntry
after_found (Found found) p Unconfirmed ns = ns
after_found (Found found) p (Confirmed mark reply source dest) ns = at_first (has_tuple p.tuple found.direction)
    (λ x. touched found.direction p.flags mark p.moment x ∷ []) ns
after_found (Ends id) p confirmation ns = with_begun (record { 0 = 0 }) p confirmation (at_first (has_tuple p.tuple Original) (λ x. []) ns)
after_found NotFound p confirmation ns = with_begun (record { 0 = 0 }) p confirmation ns

module _ (held : List ConntrackEntry) (d : has_distinct_ids held ≡ true) (i : ConnId) (p : Arrival) where
  end_blind : (confirmation : Confirmation) (h : ConntrackEntry) → find (has_tuple p.tuple Original) held ≡ Some h
      → map without_id (after_packet (Ends h.id) i p confirmation held) ≡ after_found (Ends h.id) p confirmation (map without_id held)
  end_blind confirmation h e = grind (arith, begun_blind, without_first (has_tuple p.tuple Original), at_first-blind (has_tuple p.tuple Original))

  touch_blind : (confirmation : Confirmation) (direction : Direction) (h : ConntrackEntry) → find (has_tuple p.tuple direction) held ≡ Some h
      → map without_id (after_packet (Found (connection_ref h direction)) i p confirmation held)
      ≡ after_found (Found (connection_ref h direction)) p confirmation (map without_id held)
  touch_blind Unconfirmed direction h e = refl
  touch_blind (Confirmed mark reply source dest) direction h e =
      ap (map without_id) (changed_first (has_tuple p.tuple direction) (touched direction p.flags mark p.moment) held h d e)
      ∙ at_first-blind (has_tuple p.tuple direction) (λ x. touched direction p.flags mark p.moment x ∷ []) (λ x. refl) held

  after_blind : (confirmation : Confirmation) (o r : Option ConntrackEntry) → of_original held p.tuple ≡ o → of_reply held p.tuple ≡ r
      → map without_id (after_packet (belonging_by p.flags o r) i p confirmation held)
      ≡ after_found (belonging_without_id (belonging_by p.flags o r)) p confirmation (map without_id held)
  after_blind confirmation (Some h) r eo er = grind (arith, end_blind confirmation h eo, touch_blind confirmation Original h eo)
  after_blind confirmation None (Some h) eo er = grind (arith, touch_blind confirmation Reply h er)
  after_blind confirmation None None eo er = begun_blind i p confirmation held

-- lists that are equal except for ids stay so
module _ (held others : List ConntrackEntry) (e : map without_id held ≡ map without_id others)
    (d : has_distinct_ids held ≡ true) (d' : has_distinct_ids others ≡ true) where
  pub packet_alike : (i j : ConnId) (p : Arrival) (confirmation : Confirmation)
      → map without_id (after_packet (belongs_in held p.tuple p.flags) i p confirmation held)
      ≡ map without_id (after_packet (belongs_in others p.tuple p.flags) j p confirmation others)
  packet_alike i j p confirmation = grind (arith, after_blind, same_belonging, d, e)

  pub ended_alike : (tuple : Tuple) (flags : Flags) → map without_id (after_end (belongs_in held tuple flags) held)
      ≡ map without_id (after_end (belongs_in others tuple flags) others)
  ended_alike tuple flags =
      let p : Arrival = record { tuple = tuple; flags = flags; moment = 0 } in
      grind (arith, packet_alike (record { 0 = 0 }) (record { 0 = 0 }) p Unconfirmed)

module _ (held others : List ConntrackEntry) (e : map without_id held ≡ map without_id others) where
  pub taken_alike : (tuple : Tuple) → is_taken tuple held ≡ is_taken tuple others
  taken_alike tuple = grind (arith, any_of_map (is_incoming tuple) without_id)

  pub length_alike : length held ≡ length others
  length_alike = sym (length-map held without_id) ∙ ap length e ∙ length-map others without_id

  pub listed_alike : map connection_of held ≡ map connection_of others
  listed_alike = sym (map-map connection_of without_id held) ∙ ap (map connection_of) e ∙ map-map connection_of without_id others

  pub live_alike : (limits : Limits) (now : ℕ) → map without_id (live_at limits now held) ≡ map without_id (live_at limits now others)
  live_alike limits now = let by = filter-map without_id (is_live limits now) in sym (by held) ∙ ap (live_at limits now) e ∙ by others

-- ---- records

pub recorded_by : (limits : Limits) (b : Belonging) (p : Arrival) (confirmation : Confirmation)
    (history : List TrackedPacket) → IsFoundIn b (live_list limits history p.moment) →
    live_list limits (tracked_packet b p confirmation ∷ history) p.moment
    ≡ after_packet b (record { 0 = length history }) p confirmation (live_list limits history p.moment)
recorded_by limits b p confirmation history h =
    let now = live_list-unended limits history p.moment in
    live_list-unended limits (tracked_packet b p confirmation ∷ history) p.moment
    ∙ ap (live_at limits p.moment) (unended_after b p confirmation history)
    ∙ live_after limits b _ p confirmation (unended history) (unended-distinct history) (subst (IsFoundIn b) now h)
    ∙ ap (after_packet b (record { 0 = length history }) p confirmation) (sym now)

pub recorded : (limits : Limits) (p : Arrival) (confirmation : Confirmation) (history : List TrackedPacket) →
    live_list limits (tracked_packet (belongs limits history p.moment p.tuple p.flags) p confirmation ∷ history) p.moment
    ≡ after_packet (belongs limits history p.moment p.tuple p.flags) (record { 0 = length history }) p confirmation
    (live_list limits history p.moment)
recorded limits p confirmation history = grind (arith, recorded_by, found_is_held)

pub recorded_nothing : (limits : Limits) (history : List TrackedPacket) (now : ℕ)
    → live_list limits (entry_at now ∷ history) now ≡ live_list limits history now
recorded_nothing limits history now =
    recorded_by limits NotFound (record { tuple = no_tuple; flags = no_flags; moment = now }) Unconfirmed history (λ found e. cc)

pub live_list-later : (limits : Limits) (history : List TrackedPacket) (now later : ℕ) → now ≤ later
    → live_list limits history later ≡ live_at limits later (live_list limits history now)
live_list-later limits history now later le = grind (arith, live_list-unended, live_at-later)

pub live_list-distinct : (limits : Limits) (history : List TrackedPacket) (now : ℕ) → has_distinct_ids (live_list limits history now) ≡ true
live_list-distinct limits history now = grind (arith, live_list-unended, distinct-filter, unended-distinct)

-- ---- tuples stay disjoint

pub apart_by : (b : Belonging) (id : ConnId) (p : Arrival) (confirmation : Confirmation) (held : List ConntrackEntry)
    → has_distinct_ids held ≡ true → have_disjoint_tuples held ≡ true → belongs_in held p.tuple p.flags ≡ b
    → DoesNotClash b confirmation held → have_disjoint_tuples (after_packet b id p confirmation held) ≡ true
apart_by b id p confirmation held d a e n =
    grind (arith, apart-touched_at, apart-push, apart-filter, nowhere_is_free held p.tuple p.flags, ended_is_free held p.tuple p.flags)

-- ---- moments

pub none_later_than : (now later : ℕ) (held : List ConntrackEntry) → now ≤ later → IsNoneLater now held → IsNoneLater later held
none_later_than now later [] le h = tt
none_later_than now later (x ∷ held) le h = (omega (arith, h.0), none_later_than now later held le h.1)

pub none_later-filter : (test : ConntrackEntry → Bool) (now : ℕ) (held : List ConntrackEntry) → IsNoneLater now held
    → IsNoneLater now (filter test held)
none_later-filter test now [] h = tt
none_later-filter test now (x ∷ held) h = grind (arith, h.0, none_later-filter test now held h.1)

module _ (id : ConnId) (direction : Direction) (flags : Flags) (mark now : ℕ) where
  none_later-touched_at : (held : List ConntrackEntry) → IsNoneLater now held
      → IsNoneLater now (touched_at id direction flags mark now held)
  none_later-touched_at [] h = tt
  none_later-touched_at (x ∷ held) h = grind (arith, h.0, none_later-touched_at held h.1)

none_later-push : (now : ℕ) (held : List ConntrackEntry) (new : ConntrackEntry) → IsNoneLater now held → new.last ≤ now
    → IsNoneLater now (held ++ new ∷ [])
none_later-push now [] new h e = (e, tt)
none_later-push now (x ∷ held) new h e = (h.0, none_later-push now held new h.1 e)

pub none_later_after : (b : Belonging) (id : ConnId) (p : Arrival) (confirmation : Confirmation)
    (held : List ConntrackEntry) → IsNoneLater p.moment held
    → IsNoneLater p.moment (after_packet b id p confirmation held)
none_later_after b id p confirmation held h = grind (arith, none_later-filter, none_later-touched_at, none_later-push)

pub ruleset record_rules = (recorded, recorded_nothing, live_list-later, live_list-distinct)

pub ruleset moment_rules = (none_later_after, none_later-filter, none_later_than)

pub ruleset apart_rules = (apart_by, apart-filter)

pub ruleset alike_rules = (packet_alike, ended_alike, same_belonging, live_alike, taken_alike, length_alike, listed_alike)
