-- Ids of entries, and lists that are equal except for ids.
use Rattle.conntrack.proofs.Names.{Bool, ConnId, ConntrackEntry, Direction, Flags, List, Some, Tuple, [], and_parts, arith, cond, false, filter, find}
use Rattle.conntrack.proofs.Names.{has_distinct_ids, has_id, has_ids_below, have_disjoint_tuples, is_incoming, is_taken, length, list_any, list_any-append, map}
use Rattle.conntrack.proofs.Names.{nat_tests, not-true, or_parts, refl, same_id, same_tuple, same_tuple-refl, same_tuple-true, touched, touched_at, true}
use Rattle.conntrack.proofs.Names.{without, ℕ, ◌++◌, ◌+◌, ◌<◌, ◌∷◌, ◌≡◌}
use Rattle.std.proofs.lemmas.List.Sums.{count_by-le-length, length-filter}
use Rattle.conntrack.proofs.Lists.{list_any-filter}
use Rattle.list_laws.specs.Tests.{same-tests}

-- a filter adds no id
pub distinct-filter : (p : ConntrackEntry → Bool) (held : List ConntrackEntry) → has_distinct_ids held ≡ true
    → has_distinct_ids (filter p held) ≡ true
distinct-filter p [] h = refl
distinct-filter p (x ∷ held) h = grind (arith, nat_tests, list_any-filter (same_id x.id) p held, distinct-filter p held)

pub below-filter : (p : ConntrackEntry → Bool) (n : ℕ) (held : List ConntrackEntry) → has_ids_below n held ≡ true
    → has_ids_below n (filter p held) ≡ true
below-filter p n [] h = refl
below-filter p n (x ∷ held) h = grind (arith, nat_tests, below-filter p n held)

-- a change of the entry with an id
abbrev pub changed_at : ConnId → (ConntrackEntry → ConntrackEntry) → List ConntrackEntry → List ConntrackEntry
changed_at id f held = map (λ h. cond (same_id id h) (f h) h) held

pub changed_at_none : (id : ConnId) (f : ConntrackEntry → ConntrackEntry) (held : List ConntrackEntry) → has_id id held ≡ false
    → changed_at id f held ≡ held
changed_at_none id f [] h = refl
changed_at_none id f (x ∷ held) h = grind (arith, changed_at_none id f held)

-- a touch changes no id and no tuple
module _ (id : ConnId) (direction : Direction) (flags : Flags) (mark now : ℕ) where
  any-touched_at : (p : ConntrackEntry → Bool) → ((h : ConntrackEntry) → p (touched direction flags mark now h) ≡ p h)
      → (held : List ConntrackEntry) → list_any p (touched_at id direction flags mark now held) ≡ list_any p held
  any-touched_at p same [] = refl
  any-touched_at p same (x ∷ held) = grind (arith, same x, any-touched_at p same held)

  pub distinct-touched_at : (held : List ConntrackEntry)
      → has_distinct_ids (touched_at id direction flags mark now held) ≡ has_distinct_ids held
  distinct-touched_at [] = refl
  distinct-touched_at (x ∷ held) = grind (arith, any-touched_at (same_id x.id) (λ h. refl) held, distinct-touched_at held)

  pub below-touched_at : (n : ℕ) (held : List ConntrackEntry)
      → has_ids_below n (touched_at id direction flags mark now held) ≡ has_ids_below n held
  below-touched_at n [] = refl
  below-touched_at n (x ∷ held) = grind (arith, below-touched_at n held)

  pub apart-touched_at : (held : List ConntrackEntry)
      → have_disjoint_tuples (touched_at id direction flags mark now held) ≡ have_disjoint_tuples held
  apart-touched_at [] = refl
  apart-touched_at (x ∷ held) = grind (arith, any-touched_at, x.original, x.reply, (apart-touched_at held))

-- an id above all others is new
pub has_id-below : (n : ℕ) (held : List ConntrackEntry) → has_ids_below n held ≡ true → has_id (record { 0 = n }) held ≡ false
has_id-below n [] h = refl
has_id-below n (x ∷ held) h = grind (arith, nat_tests, has_id-below n held)

pub distinct-push : (held : List ConntrackEntry) (new : ConntrackEntry) → has_distinct_ids held ≡ true
    → has_id new.id held ≡ false → has_distinct_ids (held ++ new ∷ []) ≡ true
distinct-push [] new h k = refl
distinct-push (x ∷ held) new h k = grind (arith, nat_tests, list_any-append (same_id x.id) held (new ∷ []), distinct-push held new)

pub below-push : (n : ℕ) (held : List ConntrackEntry) (new : ConntrackEntry) → has_ids_below n held ≡ true
    → new.id.0 ≡ n → has_ids_below (n + 1) (held ++ new ∷ []) ≡ true
below-push n [] new h k = grind (arith, nat_tests)
below-push n (x ∷ held) new h k = grind (arith, nat_tests, below-push n held new)

-- the first expired entry
pub has_id-found : (p : ConntrackEntry → Bool) (held : List ConntrackEntry) (h : ConntrackEntry) → find p held ≡ Some h
    → has_id h.id held ≡ true
has_id-found p [] h e = cc
has_id-found p (x ∷ held) h e = grind (arith, nat_tests, has_id-found p held h)

pub without_new : (id : ConnId) (held : List ConntrackEntry) → has_id id held ≡ false → without id held ≡ held
without_new id [] h = refl
without_new id (x ∷ held) h = grind (arith, nat_tests, without_new id held)

-- an id in a list differs from one that isn't
pub other_id : (x : ConntrackEntry) (held : List ConntrackEntry) (h : ConntrackEntry) → has_id x.id held ≡ false
    → has_id h.id held ≡ true → same_id h.id x ≡ false
other_id x [] h d e = cc
other_id x (y ∷ held) h d e = grind (arith, nat_tests, other_id x held h)

-- a found entry is the only one with its id
pub found_by_id : (p : ConntrackEntry → Bool) (held : List ConntrackEntry) (h : ConntrackEntry) → has_distinct_ids held ≡ true
    → find p held ≡ Some h → find (same_id h.id) held ≡ Some h
found_by_id p [] h d e = cc
found_by_id p (x ∷ held) h d e = grind (arith, nat_tests, other_id x held h, has_id-found p held h, found_by_id p held h)

same_tuple-sym : (a b : Tuple) → same_tuple a b ≡ same_tuple b a
same_tuple-sym a b = same-tests _ _ (λ e. rw (same_tuple-true a b e) (same_tuple-refl b)) (λ e. rw (same_tuple-true b a e) (same_tuple-refl a))

-- incoming tuples stay disjoint
pub apart-filter : (p : ConntrackEntry → Bool) (held : List ConntrackEntry) → have_disjoint_tuples held ≡ true
    → have_disjoint_tuples (filter p held) ≡ true
apart-filter p [] h = refl
apart-filter p (x ∷ held) h =
    let by = λ (t : Tuple). list_any-filter (is_incoming t) p held in grind (arith, by x.original, by x.reply, apart-filter p held)

free-push : (tuple : Tuple) (held : List ConntrackEntry) (new : ConntrackEntry) → is_taken tuple held ≡ false
    → same_tuple tuple new.original ≡ false → same_tuple tuple new.reply ≡ false → is_taken tuple (held ++ new ∷ []) ≡ false
free-push tuple held new h o r = grind (arith, nat_tests, list_any-append, same_tuple-sym)

pub apart-push : (held : List ConntrackEntry) (new : ConntrackEntry) → have_disjoint_tuples held ≡ true
    → is_taken new.original held ≡ false → is_taken new.reply held ≡ false
    → have_disjoint_tuples (held ++ new ∷ []) ≡ true
apart-push [] new h o r = refl
apart-push (x ∷ held) new h o r =
    let parts = and_parts _ _ h in
    let ends = or_parts _ _ (not-true _ parts.0) in
    let os = or_parts _ _ o in
    let rs = or_parts _ _ r in
    let oo = or_parts _ _ os.0 in
    let rr = or_parts _ _ rs.0 in
    rw (free-push x.original held new ends.0 oo.0 rr.0, free-push x.reply held new ends.1 oo.1 rr.1) (apart-push held new parts.1 os.1 rs.1)

pub length-without : (id : ConnId) (held : List ConntrackEntry) → has_id id held ≡ true → length (without id held) < length held
length-without id [] h = cc
length-without id (x ∷ held) h = grind (arith, length-filter, count_by-le-length, (length-without id held))

pub ruleset touch_rules = (apart-touched_at, distinct-touched_at, below-touched_at)

pub ruleset begin_rules = (apart-push, distinct-push, below-push, has_id-below)

pub ruleset end_rules = (apart-filter, distinct-filter, below-filter)
