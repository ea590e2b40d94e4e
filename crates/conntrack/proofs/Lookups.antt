-- What a lookup finds, and changes of the entry found.
use Rattle.list_laws.specs.Options.{option_cases}
use Rattle.conntrack.proofs.Names.{Bool, ConnId, ConnectionRef, ConntrackEntry, Direction, Ends, Flags, Found, List, NotFound, Option, Original, Reply, Some}
use Rattle.conntrack.proofs.Names.{Tuple, [], ap, arith, belonging_by, belonging_without_id, belongs_in, cond, false, filter, find, has_distinct_ids, has_id}
use Rattle.conntrack.proofs.Names.{has_tuple, have_disjoint_tuples, is_taken, map, map-append, nat_tests, not, of_original, of_reply, option_map, refl}
use Rattle.conntrack.proofs.Names.{same_tuple, same_tuple-true, true, without, without_id, ◌++◌, ◌∷◌, ◌≡◌}
use Rattle.conntrack.proofs.Lists.{list_any_either, list_any_found}
use Rattle.conntrack.proofs.Ids.{changed_at, changed_at_none, has_id-found, other_id, without_new}

-- ---- lists that are equal except for ids have the same lookups

option_map-find : {A B : Type 0} (f : A → B) (p : B → Bool) (xs : List A) → option_map f (find (λ x. p (f x)) xs) ≡ find p (map f xs)
option_map-find f p [] = refl
option_map-find f p (x ∷ xs) = grind (arith, option_map-find f p xs)

without_id_by : (flags : Flags) (o r : Option ConntrackEntry)
    → belonging_without_id (belonging_by flags o r)
    ≡ belonging_without_id (belonging_by flags (option_map without_id o) (option_map without_id r))
without_id_by flags o r = grind arith

-- lookups agree
pub same_belonging : (held others : List ConntrackEntry) (tuple : Tuple) (flags : Flags)
    → map without_id held ≡ map without_id others
    → belonging_without_id (belongs_in held tuple flags) ≡ belonging_without_id (belongs_in others tuple flags)
same_belonging held others tuple flags e =
    let o = option_map-find without_id (λ h. same_tuple h.original tuple) in
    let r = option_map-find without_id (λ h. same_tuple h.reply tuple) in
    grind (arith, without_id_by flags, o held, o others, r held, r others, e)

-- ---- changes of the entry found

-- the first entry that passes a test, replaced
abbrev pub at_first : (ConntrackEntry → Bool) → (ConntrackEntry → List ConntrackEntry) → List ConntrackEntry → List ConntrackEntry
at_first t g [] = []
at_first t g (x ∷ held) = cond (t x) (g x ++ held) (x ∷ at_first t g held)

module _ (t : ConntrackEntry → Bool) where
  -- where ids are distinct, a change of the entry found is one of the first such entry
  pub without_first : (held : List ConntrackEntry) (h : ConntrackEntry) → has_distinct_ids held ≡ true → find t held ≡ Some h
      → without h.id held ≡ at_first t (λ x. []) held
  without_first [] h d e = cc
  without_first (x ∷ held) h d e = grind (arith, nat_tests, without_new x.id held, other_id x held h, has_id-found t held h, without_first held h)

  pub changed_first : (f : ConntrackEntry → ConntrackEntry) (held : List ConntrackEntry) (h : ConntrackEntry) → has_distinct_ids held ≡ true
      → find t held ≡ Some h → changed_at h.id f held ≡ at_first t (λ x. f x ∷ []) held
  changed_first f [] h d e = cc
  changed_first f (x ∷ held) h d e =
      grind (arith, nat_tests, changed_at_none x.id f held, other_id x held h, has_id-found t held h, changed_first f held h)

  -- whatever the ids are
  pub at_first-blind : (g : ConntrackEntry → List ConntrackEntry) (blind : (x : ConntrackEntry) → map without_id (g x) ≡ g (without_id x))
      (held : List ConntrackEntry) → map without_id (at_first (λ n. t (without_id n)) g held) ≡ at_first t g (map without_id held)
  at_first-blind g blind [] = refl
  at_first-blind g blind (x ∷ held) = grind (arith, map-append without_id (g x) held, blind x, at_first-blind g blind held)

filter-at_first : (p : ConntrackEntry → Bool) (held : List ConntrackEntry) → filter p (at_first (λ x. not (p x)) (λ x. []) held) ≡ filter p held
filter-at_first p [] = refl
filter-at_first p (x ∷ held) = grind (arith, filter-at_first p held)

-- removing the first entry that a filter leaves out
pub filter-without_first : (p : ConntrackEntry → Bool) (held : List ConntrackEntry) (h : ConntrackEntry)
    → has_distinct_ids held ≡ true → find (λ x. not (p x)) held ≡ Some h → filter p (without h.id held) ≡ filter p held
filter-without_first p held h d e = rw (without_first (λ x. not (p x)) held h d e) (filter-at_first p held)

-- the original tuple of a removed entry is free, where tuples are disjoint
taken_as : (u v : Tuple) (held : List ConntrackEntry) → same_tuple u v ≡ true → is_taken u held ≡ is_taken v held
taken_as u v held e = ap (λ w. is_taken w held) (same_tuple-true u v e)

free_first : (held : List ConntrackEntry) (h : ConntrackEntry) (tuple : Tuple) → have_disjoint_tuples held ≡ true
    → of_original held tuple ≡ Some h → is_taken tuple (at_first (λ x. same_tuple x.original tuple) (λ x. []) held) ≡ false
free_first [] h tuple a e = refl
free_first (x ∷ held) h tuple a e =
    let taken = list_any_found (λ n. same_tuple n.original tuple) (λ n. same_tuple n.reply tuple) held h in
    grind (arith, taken, taken_as x.original tuple held, taken_as x.reply tuple held, free_first held h tuple)

-- what a lookup finds is in the list, and a tuple without an entry is free
module _ (held : List ConntrackEntry) (tuple : Tuple) (flags : Flags) where
  found_has : (direction : Direction) (h : ConntrackEntry) → find (has_tuple tuple direction) held ≡ Some h → has_id h.id held ≡ true
  found_has direction = has_id-found (has_tuple tuple direction) held

  pub found_is_held : (found : ConnectionRef) → belongs_in held tuple flags ≡ Found found → has_id found.id held ≡ true
  found_is_held found e =
      grind (arith, option_cases (of_original held tuple), option_cases (of_reply held tuple), found_has Original, found_has Reply)

  pub nowhere_is_free : belongs_in held tuple flags ≡ NotFound → is_taken tuple held ≡ false
  nowhere_is_free e =
      let either = list_any_either (λ h. same_tuple h.original tuple) (λ h. same_tuple h.reply tuple) held in
      grind (arith, either, option_cases (of_original held tuple), option_cases (of_reply held tuple))

  ends_by : (o r : Option ConntrackEntry) (id : ConnId) → belonging_by flags o r ≡ Ends id → (h : ConntrackEntry) × (o ≡ Some h) × (h.id ≡ id)
  ends_by o r id e = grind arith

  pub ends_is_held : (id : ConnId) → belongs_in held tuple flags ≡ Ends id → has_id id held ≡ true
  ends_is_held id e = let at = ends_by _ _ id e in rw (← at.2) (found_has Original at.0 at.1)

  pub ended_is_free : (id : ConnId) → has_distinct_ids held ≡ true → have_disjoint_tuples held ≡ true → belongs_in held tuple flags ≡ Ends id
      → is_taken tuple (without id held) ≡ false
  ended_is_free id d a e = grind (arith, ends_by, without_first (λ n. same_tuple n.original tuple) held, free_first held)

pub ruleset looked_up_rules = (found_is_held, ends_is_held, nowhere_is_free, ended_is_free)
