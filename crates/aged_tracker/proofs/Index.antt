-- Searches in the list of entries, and the index of an `AgedTracker`.
use Rattle.aged_tracker.proofs.Names.{AgedSlots, Belonging, Bool, ConnId, ConntrackEntry, Direction, Flags, IsAllLive, IsIndexed, IsTable, Limits, List}
use Rattle.aged_tracker.proofs.Names.{None, NotFound, Option, Original, Reply, Some, Tuple, [], and_parts, ap, apart-filter, apart-push, apart-touched_at, arith}
use Rattle.aged_tracker.proofs.Names.{belonging_as, belonging_at, belonging_by, belonging_in, belongs_in, cases_Bool, common_steps, cond, cons_held, distinct-filter}
use Rattle.aged_tracker.proofs.Names.{distinct-push, distinct-touched_at, entry_at, eq-eqb, eqb-true, false, filter, find, find-filter, found_by_id}
use Rattle.aged_tracker.proofs.Names.{has_distinct_ids, has_id, have_disjoint_tuples, held_by, if◌then◌else◌, inl, inr, is_incoming, is_live, is_some}
use Rattle.aged_tracker.proofs.Names.{is_taken, key_in, length, length-append, length-map, list_any, live_at, map, nat_tests, not, not-true, option_cases}
use Rattle.aged_tracker.proofs.Names.{option_map, or_cases, or_parts, refl, rules, same_Some, same_id, same_tuple, same_tuple-true, serial_at, slots_of, some_of_map, sym}
use Rattle.aged_tracker.proofs.Names.{touched, touched_at, true, without_new, ℕ, ◌&&◌, ◌++◌, ◌+◌, ◌-◌, ◌||◌, ◌∙◌, ◌∷◌, ◌≡◌}
use Rattle.aged_tracker.proofs.Lists.{named_at}
use Rattle.aged_tracker.proofs.Order.{all_pass, at_slot, found_from, of_slot}
use Rattle.conntrack.specs.ConntrackEntry.{without}
use Rattle.ip_headers.specs.contracts.tuple.TuplePartialEq.TheImpl.{eq-value}
use Rattle.list_laws.specs.Tests.{and-flip}

-- ---- searches in the list of entries

pub not_both : {P : Type 0} (b : Bool) → b ≡ true → b ≡ false → P
not_both b t f = absurd cc

pub found_passes : {X : Type 0} (p : X → Bool) (xs : List X) (x : X) → find p xs ≡ Some x → p x ≡ true
found_passes p [] x e = cc
found_passes p (y ∷ xs) x e = grind (arith, found_passes p xs x)

pub any_is : {X : Type 0} (p : X → Bool) (xs : List X) → list_any p xs ≡ is_some (find p xs)
any_is p [] = refl
any_is p (x ∷ xs) = grind (arith, any_is p xs)

pub same_found : {X Y : Type 0} (p : X → Bool) (key : X → Y) (f : X → X) → ((x : X) → (p (f x) ≡ p x) × (key (f x) ≡ key x)) → (xs : List X)
    → option_map key (find p (map f xs)) ≡ option_map key (find p xs)
same_found p key f alike [] = refl
same_found p key f alike (x ∷ xs) = grind (arith, (alike x).0, (alike x).1, same_found p key f alike xs)

-- one entry at most passes
abbrev pub IsOnce : (ConntrackEntry → Bool) → List ConntrackEntry → Type 0
IsOnce p [] = Unit {0}
IsOnce p (x ∷ held) = (p x ≡ true → list_any p held ≡ false) × IsOnce p held

pub once_by_id : (id : ConnId) (held : List ConntrackEntry) → has_distinct_ids held ≡ true → IsOnce (same_id id) held
once_by_id id [] distinct = tt
once_by_id id (x ∷ held) distinct = grind (arith, nat_tests, once_by_id id held)

pub once_by_tuple : (tuple : Tuple) (held : List ConntrackEntry) → have_disjoint_tuples held ≡ true → IsOnce (is_incoming tuple) held
once_by_tuple tuple [] apart = tt
once_by_tuple tuple (x ∷ held) apart =
    let parts = and_parts _ (have_disjoint_tuples held) apart in
    let free = or_parts (is_taken x.original held) (is_taken x.reply held) (not-true _ parts.0) in
    let none : is_incoming tuple x ≡ true → is_taken tuple held ≡ false = λ its. elim (or_cases _ _ its) [
      | inl e ↦ ap (λ q. is_taken q held) (sym (same_tuple-true x.original tuple e)) ∙ free.0
      | inr e ↦ ap (λ q. is_taken q held) (sym (same_tuple-true x.reply tuple e)) ∙ free.1
    ] in
    (none, once_by_tuple tuple held parts.1)

-- what was found, if it passes another test too
abbrev pub kept_if : (ConntrackEntry → Bool) → Option ConntrackEntry → Option ConntrackEntry
kept_if f None = None
kept_if f (Some x) = cond (f x) (Some x) None

pub kept_step : (p : ConntrackEntry → Bool) (o : Option ConntrackEntry) (held : List ConntrackEntry)
    → filter p (cons_held o held) ≡ cons_held (kept_if p o) (filter p held)
kept_step p o held = grind arith

module _ (p f : ConntrackEntry → Bool) where
  find_none : (held : List ConntrackEntry) → list_any p held ≡ false → find (λ x. f x && p x) held ≡ None
  find_none [] none = refl
  find_none (x ∷ held) none = grind (arith, find_none held)

  pub find_both : (held : List ConntrackEntry) → IsOnce p held → find (λ x. f x && p x) held ≡ kept_if f (find p held)
  find_both [] once = refl
  find_both (x ∷ held) once = grind (arith, find_none held, once.0, find_both held once.1)

-- the one that passes one test, if it passes the other
pub kept_both : (p q : ConntrackEntry → Bool) (held : List ConntrackEntry) → IsOnce p held → IsOnce q held
    → kept_if q (find p held) ≡ kept_if p (find q held)
kept_both p q held once_p once_q =
    sym (find_both p q held once_p) ∙ (λ i. find (λ x. and-flip (q x) (p x) i) held) ∙ find_both q p held once_q

-- an entry that passes two tests is found by each
pub found_too : (p q : ConntrackEntry → Bool) (held : List ConntrackEntry) → IsOnce p held → IsOnce q held
    → (h : ConntrackEntry) → find q held ≡ Some h → p h ≡ true → find p held ≡ Some h
found_too p q held once_p once_q h is passes = grind (arith, option_cases (find p held), kept_both p q held once_p once_q)

-- ---- an entry is touched

touched_alike : (direction : Direction) (flags : Flags) (mark now : ℕ) (tuple : Tuple) (b : Bool) (x : ConntrackEntry)
    → let y = cond b (touched direction flags mark now x) x in (is_incoming tuple y ≡ is_incoming tuple x) × (y.id.0 ≡ x.id.0)
touched_alike direction flags mark now tuple b x = grind arith

-- ---- an entry is added

-- a tuple of one entry is not one of another
unlike : (taken tuple : Tuple) (x : ConntrackEntry) → is_incoming taken x ≡ false → is_incoming tuple x ≡ true → same_tuple taken tuple ≡ false
unlike taken tuple x free its = grind (arith, nat_tests)

pushed_key : (o r : Bool) (h : ConntrackEntry) → cond r (Some h.id.0) (cond o (Some h.id.0) None)
    ≡ option_map (λ (x : ConntrackEntry). x.id.0) (cond (o || r) (Some h) None)
pushed_key o r h = grind arith

key_in-push : (h : ConntrackEntry) (tuple : Tuple) (held : List ConntrackEntry) → is_taken h.original held ≡ false → is_taken h.reply held ≡ false
    → cond (same_tuple h.reply tuple) (Some h.id.0) (cond (same_tuple h.original tuple) (Some h.id.0) (key_in tuple held))
    ≡ key_in tuple (held ++ h ∷ [])
key_in-push h tuple [] o r = pushed_key (same_tuple h.original tuple) (same_tuple h.reply tuple) h
key_in-push h tuple (x ∷ held) o r =
    let os = or_parts (is_incoming h.original x) _ o in
    let rs = or_parts (is_incoming h.reply x) _ r in
    elim (cases_Bool (is_incoming tuple x)) [
      | inl its ↦ rw (its, unlike h.original tuple x os.0 its, unlike h.reply tuple x rs.0 its) refl
      | inr not_its ↦ rw not_its (key_in-push h tuple held os.1 rs.1)
    ]

-- ---- an entry is removed

module _ (id : ConnId) (h : ConntrackEntry) where
  pub one_fewer : (held : List ConntrackEntry) → IsOnce (same_id id) held → find (same_id id) held ≡ Some h
      → length (without id held) + 1 ≡ length held
  one_fewer [] once is = cc
  one_fewer (x ∷ held) once is = grind (arith, once.0, without_new id held, one_fewer held once.1)

  pub filter_without : (p : ConntrackEntry → Bool) (held : List ConntrackEntry) → IsOnce (same_id id) held → find (same_id id) held ≡ Some h
      → p h ≡ false → filter p (without id held) ≡ filter p held
  filter_without p [] once is fails = refl
  filter_without p (x ∷ held) once is fails = grind (arith, once.0, without_new id held, filter_without p held once.1)

  key_dropped : (o r c : Bool) (y : ConntrackEntry) → cond (o || r) (Some h) None ≡ cond c (Some y) None
      → cond r None (cond o None (Some y.id.0)) ≡ option_map (λ (x : ConntrackEntry). x.id.0) (cond (not c) (Some y) None)
  key_dropped o r c y same = grind arith

  key_in-without : (tuple : Tuple) (held : List ConntrackEntry) → has_distinct_ids held ≡ true → have_disjoint_tuples held ≡ true
      → find (same_id id) held ≡ Some h
      → cond (same_tuple h.reply tuple) None (cond (same_tuple h.original tuple) None (key_in tuple held)) ≡ key_in tuple (without id held)
  key_in-without tuple held distinct apart is =
      by (find (is_incoming tuple) held)
      (ap (kept_if (is_incoming tuple)) (sym is) ∙ kept_both (same_id id) (is_incoming tuple) held (once_by_id id held distinct) once)
      ∙ ap (option_map (λ (x : ConntrackEntry). x.id.0))
      (sym (find-filter (is_incoming tuple) (λ x. not (same_id id x)) held ∙ find_both (is_incoming tuple) (λ x. not (same_id id x)) held once))
    where
      once : IsOnce (is_incoming tuple) held
      once = once_by_tuple tuple held apart

      by : (o : Option ConntrackEntry) → kept_if (is_incoming tuple) (Some h) ≡ kept_if (same_id id) o
          → cond (same_tuple h.reply tuple) None (cond (same_tuple h.original tuple) None (option_map (λ (x : ConntrackEntry). x.id.0) o))
          ≡ option_map (λ (x : ConntrackEntry). x.id.0) (kept_if (λ x. not (same_id id x)) o)
      by o same = grind (arith, option_cases o, key_dropped)

-- ---- the index

module _ (held : List ConntrackEntry) (at : Tuple → Option ℕ) (live : ℕ) (is : IsIndexed held at live) where
  pub taken_as : (tuple : Tuple) → is_taken tuple held ≡ is_some (at tuple)
  taken_as tuple = grind (arith, any_is, is.keyed tuple)

  pub unfound : (tuple : Tuple) → at tuple ≡ None → find (is_incoming tuple) held ≡ None
  unfound tuple none = grind (arith, common_steps, option_cases (find (is_incoming tuple) held), is.keyed tuple)

  pub indexed_touched : (id : ConnId) (direction : Direction) (flags : Flags) (mark now : ℕ)
      → IsIndexed (touched_at id direction flags mark now held) at live
  indexed_touched id direction flags mark now =
      record {
        keyed = λ q. is.keyed q ∙ sym (same_found (is_incoming q) (λ x. x.id.0) _
            (λ x. touched_alike direction flags mark now q (same_id id x) x) held);
        distinct = distinct-touched_at id direction flags mark now held ∙ is.distinct;
        apart = apart-touched_at id direction flags mark now held ∙ is.apart;
        count = is.count ∙ sym (length-map held _);
      }

  pub indexed_begun : (at' : Tuple → Option ℕ) (h : ConntrackEntry) → has_id h.id held ≡ false → is_taken h.original held ≡ false
      → is_taken h.reply held ≡ false → ((q : Tuple) → at' q ≡ cond (same_tuple h.reply q) (Some h.id.0) (cond (same_tuple h.original q) (Some h.id.0) (at q)))
      → IsIndexed (held ++ h ∷ []) at' (live + 1)
  indexed_begun at' h fresh o r now =
      grind (arith, nat_tests, is.keyed, key_in-push, distinct-push, is.distinct, apart-push, is.apart, is.count, length-append)

  pub indexed_ended : (at' : Tuple → Option ℕ) (id : ConnId) (h : ConntrackEntry) → find (same_id id) held ≡ Some h
      → ((q : Tuple) → at' q ≡ cond (same_tuple h.reply q) None (cond (same_tuple h.original q) None (at q)))
      → IsIndexed (without id held) at' (live - 1)
  indexed_ended at' id h found now =
      grind (arith, is.keyed, key_in-without, is.distinct, is.apart, distinct-filter, apart-filter, is.count, one_fewer, once_by_id)

-- ---- lookups

chosen : (flags : Flags) (h : ConntrackEntry) (l o r : Bool) → (o || r) ≡ true
    → option_map (λ d. if l then belonging_as flags h d else NotFound) (if o then Some Original else (if r then Some Reply else None))
    ≡ Some (belonging_by flags (cond (l && o) (Some h) None) (cond (l && r) (Some h) None))
chosen flags h l o r e = grind arith

and_or : (l o r : Bool) → ((l && o) ≡ ((l && o) && (o || r))) × ((l && r) ≡ ((l && r) && (o || r)))
and_or l o r = (grind arith, grind arith)

module _ (limits : Limits) (now : ℕ) (tuple : Tuple) (flags : Flags) (held : List ConntrackEntry) where
  abbrev original : ConntrackEntry → Bool
  original x = is_live limits now x && same_tuple x.original tuple

  abbrev reply : ConntrackEntry → Bool
  reply x = is_live limits now x && same_tuple x.reply tuple

  -- the lookup result of the entry with the tuple, if there is one
  abbrev looked_up : Option ConntrackEntry → Belonging
  looked_up o = belonging_by flags (kept_if original o) (kept_if reply o)

  -- a test that only incoming tuples pass
  found_by : (f : ConntrackEntry → Bool) → ((x : ConntrackEntry) → f x ≡ (f x && is_incoming tuple x)) → have_disjoint_tuples held ≡ true
      → (o : Option ConntrackEntry) → find (is_incoming tuple) held ≡ o → find f held ≡ kept_if f o
  found_by f its apart o is = grind (arith, its, find_both (is_incoming tuple) f held (once_by_tuple tuple held apart))

  pub belongs_by : have_disjoint_tuples held ≡ true → (o : Option ConntrackEntry) → find (is_incoming tuple) held ≡ o
      → looked_up o ≡ belongs_in (live_at limits now held) tuple flags
  belongs_by apart o is =
      let alike = λ (x : ConntrackEntry). and_or (is_live limits now x) (same_tuple x.original tuple) (same_tuple x.reply tuple) in
      rw (
        find-filter (λ h. same_tuple h.original tuple) (is_live limits now) held ∙ found_by original (λ x. (alike x).0) apart o is,
        find-filter (λ h. same_tuple h.reply tuple) (is_live limits now) held ∙ found_by reply (λ x. (alike x).1) apart o is,
      ) refl

  pub belongs_some : have_disjoint_tuples held ≡ true → (h : ConntrackEntry) → find (is_incoming tuple) held ≡ Some h
      → belonging_at limits now tuple flags (Some h) ≡ Some (belongs_in (live_at limits now held) tuple flags)
  belongs_some apart h is =
      chosen flags h (is_live limits now h) (same_tuple h.original tuple) (same_tuple h.reply tuple) (found_passes (is_incoming tuple) held h is)
      ∙ ap Some (belongs_by apart (Some h) is)

-- an entry that gives a lookup result has the tuple
its_own : (f : Direction → Belonging) (o r : Bool) (b : Belonging)
    → option_map f (if o then Some Original else (if r then Some Reply else None)) ≡ Some b → (o || r) ≡ true
its_own f o r b e = grind arith

-- ---- the entries of a table by their ids and tuples

module _ (t : AgedSlots) (table : IsTable t) where
  pub found_at : (id : ConnId) → find (same_id id) (held_by t) ≡ slots_of t id.0
  found_at id =
      found_from (entry_at t.slots) (same_id id) (slots_of t id.0) (serial_at t.slots id.0)
      (λ n h is same. ap (slots_of t) (sym (eqb-true h.id.0 id.0 same)) ∙ (of_slot t.slots n h is).0)
      (λ h is. (eq-eqb h.id.0 id.0 (named_at t.slots id.0 h is), at_slot t.slots t.next_serial table.numbered id.0 h is ∙ sym is))
      0 t.next_serial (λ some. (omega arith, omega (arith, table.numbered.below id.0 some)))

  pub live_all : (limits : Limits) (now : ℕ) → IsAllLive limits (slots_of t) now → live_at limits now (held_by t) ≡ held_by t
  live_all limits now live =
      all_pass (entry_at t.slots) (is_live limits now) (λ n h is. live h.id.0 h (of_slot t.slots n h is).0) 0 t.next_serial

  pub has_as : (id : ConnId) → has_id id (held_by t) ≡ is_some (slots_of t id.0)
  has_as id = any_is (same_id id) (held_by t) ∙ ap is_some (found_at id)

  pub owner : (at : Tuple → Option ℕ) (live : ℕ) → IsIndexed (held_by t) at live → (tuple : Tuple) (key : ℕ) → at tuple ≡ Some key
      → (h : ConntrackEntry) × ((find (is_incoming tuple) (held_by t) ≡ Some h) × (slots_of t key ≡ Some h))
  owner at live is tuple key found =
      let h = some_of_map (λ (x : ConntrackEntry). x.id.0) (find (is_incoming tuple) (held_by t)) key (sym (is.keyed tuple) ∙ found) in
      let slot = ap (slots_of t) (sym h.2) ∙ sym (found_at h.0.id) ∙ found_by_id (is_incoming tuple) (held_by t) h.0 is.distinct h.1 in
      (h.0, (h.1, slot))

  module _ (at : Tuple → Option ℕ) (live : ℕ) (is : IsIndexed (held_by t) at live) (limits : Limits) (now : ℕ) (tuple : Tuple) (flags : Flags) (key : ℕ) where
    -- the lookup result of the entry in a slot is that of the table, if it has the tuple
    pub belongs_at : (b : Belonging) → belonging_at limits now tuple flags (slots_of t key) ≡ Some b
        → b ≡ belongs_in (live_at limits now (held_by t)) tuple flags
    belongs_at b = by (slots_of t key) refl
      where
        id : ConnId
        id = record { 0 = key }

        by : (o : Option ConntrackEntry) → slots_of t key ≡ o → belonging_at limits now tuple flags o ≡ Some b
            → b ≡ belongs_in (live_at limits now (held_by t)) tuple flags
        by None none e = cc
        by (Some h) at_key e =
            let its = its_own (belonging_in limits now flags h) (same_tuple h.original tuple) (same_tuple h.reply tuple) b e in
            let found = found_too (is_incoming tuple) (same_id id) (held_by t) (once_by_tuple _ _ is.apart) (once_by_id _ _ is.distinct) h
            (found_at id ∙ at_key) its in
            same_Some b _ (sym e ∙ belongs_some limits now tuple flags (held_by t) is.apart h found)

    -- the entry in the slot of a tuple has it
    pub belongs_indexed : at tuple ≡ Some key
        → belonging_at limits now tuple flags (slots_of t key) ≡ Some (belongs_in (live_at limits now (held_by t)) tuple flags)
    belongs_indexed found =
        let it = owner at live is tuple key found in
        ap (belonging_at limits now tuple flags) it.1.1 ∙ belongs_some limits now tuple flags (held_by t) is.apart it.0 it.1.0

-- ---- the test of two tuples that `Tuple` derives

abbrev pub derived_eq : Tuple → Tuple → Bool
derived_eq a b = eq-value.it a b

pub same_eq : (a b : Tuple) → derived_eq a b ≡ same_tuple a b
same_eq a b = search (rules, nat_tests)

pub same_fun : ◌≡◌ {A = Tuple → Tuple → Bool} derived_eq same_tuple
same_fun = λ i. λ a b. same_eq a b i
