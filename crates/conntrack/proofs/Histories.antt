-- The connections of a history that no record removed, and what one more record does to them.
use Rattle.conntrack.proofs.Names.{Arrival, Belonging, Confirmation, Confirmed, ConnectionChange, ConntrackEntry, Creation, Ends, Found, Limits, List}
use Rattle.conntrack.proofs.Names.{NotFound, TrackedPacket, Unconfirmed, [], after_packet, append-nil, arith, begun_in, change_of_packet, cond, connection_in}
use Rattle.conntrack.proofs.Names.{ended_by_packet, tracked_packet, eq-eqb, false, filter, filter-append, has_distinct_ids, has_id, is_ended, is_live, is_that}
use Rattle.conntrack.proofs.Names.{is_touch_of, length, list_all, list_all-append, live_at, live_list, map, map-append, map-id, nat_lt, nat_tests, not}
use Rattle.conntrack.proofs.Names.{number_if_begins, or-false, refl, replayed, same_id, touched, true, ℕ, ◌&&◌, ◌++◌, ◌∷◌, ◌≡◌, ◌≤◌}
use Rattle.conntrack.proofs.Lists.{filter-map, filter-true, map-filter-change, map-filter-later}
use Rattle.conntrack.proofs.Ids.{distinct-filter, distinct-push}

-- those that no record removed
abbrev pub unended : List TrackedPacket → List ConntrackEntry
unended history = map (λ c. connection_in c history) (filter (λ c. not (is_ended c history)) (begun_in history))

-- the numbers of a history's connections are below its length
all_below : (n : ℕ) (history : List TrackedPacket) → length history ≤ n → list_all (λ c. nat_lt c n) (begun_in history) ≡ true
all_below n [] h = refl
all_below n (e ∷ history) h =
    grind (arith, nat_tests, list_all-append (λ c. nat_lt c n) (begun_in history) (number_if_begins (length history) e.change), all_below n history)

pub begun_in-below : (history : List TrackedPacket) → list_all (λ c. nat_lt c (length history)) (begun_in history) ≡ true
begun_in-below history = all_below (length history) history (omega arith)

-- what a packet does to an earlier connection that it does not remove
abbrev touched_by : Belonging → Arrival → Confirmation → ConntrackEntry → ConntrackEntry
touched_by b p Unconfirmed h = h
touched_by (Found found) p (Confirmed mark reply source dest) h =
    cond (same_id found.id h) (touched found.direction p.flags mark p.moment h) h
touched_by b p confirmation h = h

replayed-cons : (b : Belonging) (p : Arrival) (confirmation : Confirmation) (c : ℕ) (begun : Creation) (entries : List TrackedPacket)
    → replayed c begun (cond (is_touch_of c (change_of_packet b p confirmation)) (tracked_packet b p confirmation ∷ entries) entries)
    ≡ touched_by b p confirmation (replayed c begun entries)
replayed-cons b p confirmation c begun entries = grind arith

module _ (b : Belonging) (p : Arrival) (confirmation : Confirmation) (history : List TrackedPacket) where
  earlier : (c : ℕ) → nat_lt c (length history) ≡ true → (not (is_ended c (tracked_packet b p confirmation ∷ history))
      ≡ (not (is_ended c history) && not (is_that c (ended_by_packet b))))
      × (connection_in c (tracked_packet b p confirmation ∷ history) ≡ touched_by b p confirmation (connection_in c history))
  earlier c below = grind (arith, nat_tests, replayed-cons)

-- a packet's record does to them what the packet does to entries
pub unended_after : (b : Belonging) (p : Arrival) (confirmation : Confirmation) (history : List TrackedPacket)
    → unended (tracked_packet b p confirmation ∷ history)
    ≡ after_packet b (record { 0 = length history }) p confirmation (unended history)
unended_after b p confirmation history =
    rw (
      filter-append,
      map-append,
      map-filter-change (λ c. connection_in c history) (λ c. connection_in c (tracked_packet b p confirmation ∷ history))
          (λ c. not (is_ended c (tracked_packet b p confirmation ∷ history))) (λ c. not (is_ended c history))
          (λ h. not (is_that h.id.0 (ended_by_packet b))) (touched_by b p confirmation)
          (λ c. nat_lt c (length history)) (earlier b p confirmation history) (begun_in history) (begun_in-below history),
    ) (by_result b confirmation)
  where
    by_result : (b : Belonging) (confirmation : Confirmation) →
        map (touched_by b p confirmation) (filter (λ h. not (is_that h.id.0 (ended_by_packet b))) (unended history))
        ++ map (λ c. connection_in c (tracked_packet b p confirmation ∷ history))
        (filter (λ c. not (is_ended c (tracked_packet b p confirmation ∷ history)))
        (number_if_begins (length history) (change_of_packet b p confirmation)))
        ≡ after_packet b (record { 0 = length history }) p confirmation (unended history)
    by_result (Found found) Unconfirmed = rw (append-nil, map-id, filter-true) refl
    by_result (Found found) (Confirmed mark reply source dest) = rw (append-nil, filter-true) refl
    by_result NotFound Unconfirmed = rw (append-nil, map-id, filter-true) refl
    by_result NotFound (Confirmed mark reply source dest) =
        simp (map-id, filter-true, eq-eqb (length history) (length history) refl, or-false)
    by_result (Ends id) Unconfirmed = rw (append-nil, map-id) refl
    by_result (Ends id) (Confirmed mark reply source dest) = simp (map-id, eq-eqb (length history) (length history) refl, or-false)

-- no two connections have the same number
module _ (f : ℕ → ConntrackEntry) (named : (c : ℕ) → (f c).id.0 ≡ c) where
  none_numbered : (n : ℕ) (cs : List ℕ) → list_all (λ c. nat_lt c n) cs ≡ true → has_id (record { 0 = n }) (map f cs) ≡ false
  none_numbered n [] h = refl
  none_numbered n (c ∷ cs) h = grind (arith, nat_tests, named c, none_numbered n cs)

  numbered-push : (n : ℕ) (w : ConnectionChange) (cs : List ℕ) → list_all (λ c. nat_lt c n) cs ≡ true
      → has_distinct_ids (map f cs) ≡ true → has_distinct_ids (map f (cs ++ number_if_begins n w)) ≡ true
  numbered-push n w cs below d = grind (arith, map-append f cs, append-nil, named n, distinct-push (map f cs) (f n) d, none_numbered n cs below)

  numbered : (history : List TrackedPacket) → has_distinct_ids (map f (begun_in history)) ≡ true
  numbered [] = refl
  numbered (e ∷ history) = numbered-push (length history) e.change (begun_in history) (begun_in-below history) (numbered history)

pub unended-distinct : (history : List TrackedPacket) → has_distinct_ids (unended history) ≡ true
unended-distinct history =
    let connections = map (λ c. connection_in c history) (begun_in history) in
    rw (← filter-map (λ c. connection_in c history) (λ h. not (is_ended h.id.0 history)) (begun_in history))
    (distinct-filter (λ h. not (is_ended h.id.0 history)) connections
    (numbered (λ c. connection_in c history) (λ c. refl) history))

-- the connections alive are the live ones of those that no record removed
pub live_list-unended : (limits : Limits) (history : List TrackedPacket) (now : ℕ)
    → live_list limits history now ≡ live_at limits now (unended history)
live_list-unended limits history now = map-filter-later (λ c. connection_in c history) (λ c. not (is_ended c history))
    (is_live limits now) (begun_in history)
