-- The entries in the order of their creation, and the queues, as a table changes.
use Rattle.aged_tracker.proofs.Names.{AgedSlots, AllByRecursion, AreOldest, Bool, Connection, ConntrackEntry, Contains, Contains-entries, Contains-map}
use Rattle.aged_tracker.proofs.Names.{Contains-permutation, Contains-unmap, ContainsKey-within, IfSome, IsAllLive, IsDistinct, IsDistinct-IsPermutation, IsIn}
use Rattle.aged_tracker.proofs.Names.{IsIn-without, IsLiveQueue, IsNonDecreasingBy, IsNonDecreasingBy-filter, IsNonDecreasingBy-push, IsNoneLater, IsNumbered}
use Rattle.aged_tracker.proofs.Names.{IsPermutation, IsPermutation-map, IsPermutation-sym, IsRising, IsSome, IsTable, Limits, Link, List, Lists, MAX_KEYS}
use Rattle.aged_tracker.proofs.Names.{None, Option, Relists, SameBy, Sets, Slab, Slot, Some, Updates, [], and_parts, ap, arith, cases_eq, common_steps}
use Rattle.aged_tracker.proofs.Names.{connection_of, connections_by, cons_held, entries, entries_from, entry_at, entry_below, eq-eqb, eqb, eqb-true}
use Rattle.aged_tracker.proofs.Names.{except_links, false, filter, find, get, get_or, held_at, held_by, held_from, held_of, inl, inr, is_live, is_some}
use Rattle.aged_tracker.proofs.Names.{last_at, last_by, length, limit_at, limit_of, map, nat_tests, ne_eqb, none-some, not, numbered_entry, off, option_cases}
use Rattle.aged_tracker.proofs.Names.{option_map, pushed, queue_of, refl, same_Some, serial_at, serial_by, slice_get, slots_of, some_of_map, subst, suc, sym}
use Rattle.aged_tracker.proofs.Names.{true, true≢false, without, zero, ℕ, ◌&&◌, ◌++◌, ◌+◌, ◌<◌, ◌∙◌, ◌∷◌, ◌≡◌, ◌≢◌, ◌≤◌}
use Rattle.aged_tracker.proofs.Lists.{front_owned, kept_by, named_at, none_in, pushed_by, rising_as, rising_first, some_of}
use Rattle.aged_tracker.proofs.Names.{AreLiveUntil, Direction, Flags, touched}
use Rattle.box_file.specs.Idle.{limit_for}
use Rattle.box_file.specs.declared.idle_line.IdleKind.{IdleKind}
use Rattle.box_file.specs.declared.idle_line.IdleKind.TheVariants as idle
use Rattle.conntrack.specs.Phases.{idle_kind, phase_of}
use Rattle.std.proofs.lemmas.Cmp.{nat_eq_equiv}
use Rattle.std.proofs.lemmas.Map.Entries.{lookup_tail}
use Rattle.std.proofs.lemmas.Map.Views.{Contains-from_lookup, lookup-from_Contains}
use Rattle.std.specs.Map.{keys_of, lookup}
use Rattle.std.specs.Prelude.{nat_lt}

-- ---- the order of creation: the entries by rising numbers

pub not_none : {X P : Type 0} (o : Option X) → o ≡ None → IsSome o → P
not_none o e is = grind arith

same_options : {X : Type 0} (a b : Option X) → ((x : X) → a ≡ Some x → b ≡ Some x) → ((x : X) → b ≡ Some x → a ≡ Some x) → a ≡ b
same_options a b to from = grind (arith, to, from)

pub slot_by : (slots : Slab Slot) (key : ℕ) → IsSome (held_at slots key) → IsSome (get slots key)
slot_by slots key is = grind (arith, common_steps)

-- ---- the entry with a number

module _ (s : ℕ → Option ConntrackEntry) (serial : ℕ → ℕ) (n : ℕ) where
  from_below : (most : ℕ) (h : ConntrackEntry) → entry_below s serial n most ≡ Some h → (k : ℕ) × ((s k ≡ Some h) × (serial k ≡ n))
  from_below zero h is = absurd (none-some h is)
  from_below (suc k) h is = grind (arith, nat_tests, from_below k h)

  to_below : ((j k : ℕ) → IsSome (s j) → IsSome (s k) → serial j ≡ serial k → j ≡ k) → (most k : ℕ) (h : ConntrackEntry) → k < most
      → s k ≡ Some h → serial k ≡ n → entry_below s serial n most ≡ Some h
  to_below apart zero k h within is at = absurd (omega (arith, within))
  to_below apart (suc j) k h within is at = grind (arith, common_steps, cases_eq j k, apart j k, to_below apart j k h, option_cases (s j))

pub at_slot : (slots : Slab Slot) (next : ℕ) → IsNumbered slots next → (k : ℕ) (h : ConntrackEntry) → held_at slots k ≡ Some h
    → entry_at slots (serial_at slots k) ≡ Some h
at_slot slots next numbered k h is =
    to_below (held_at slots) (serial_at slots) (serial_at slots k) numbered.apart (length slots.slots) k h
    (ContainsKey-within slots k (slot_by slots k (ap is_some is))) is refl

pub of_slot : (slots : Slab Slot) (n : ℕ) (h : ConntrackEntry) → entry_at slots n ≡ Some h
    → (held_at slots h.id.0 ≡ Some h) × (serial_at slots h.id.0 ≡ n)
of_slot slots n h is =
    let at = from_below (held_at slots) (serial_at slots) n (length slots.slots) h is in grind (arith, named_at slots at.0 h at.1.0, at.1)

-- the entry with a number, where this is what becomes of the slots
entry_as : (old new : Slab Slot) (next next' : ℕ) → IsNumbered old next → IsNumbered new next' → (one : Option ConntrackEntry → Option ConntrackEntry)
    → one None ≡ None → (n : ℕ)
    → ((k : ℕ) → IsSome (held_at new k) → serial_at new k ≡ n → (held_at new k ≡ one (held_at old k)) × (serial_at old k ≡ n))
    → ((k : ℕ) → IsSome (one (held_at old k)) → serial_at old k ≡ n → (held_at new k ≡ one (held_at old k)) × (serial_at new k ≡ n))
    → entry_at new n ≡ one (entry_at old n)
entry_as old new next next' numbered numbered' one none n from to =
    same_options _ _ (λ y is.
    let at = of_slot new n y is in
    let was = from y.id.0 (ap is_some at.0) at.1 in
    let x = some_of (held_at old y.id.0) (kept (held_at old y.id.0) y (sym was.0 ∙ at.0)) in
    ap one (ap (entry_at old) (sym was.1) ∙ at_slot old next numbered y.id.0 x.0 x.1 ∙ sym x.1) ∙ sym was.0 ∙ at.0)
    (λ y is.
    let x = some_of (entry_at old n) (kept (entry_at old n) y is) in
    let at = of_slot old n x.0 x.1 in
    let becomes : one (held_at old x.0.id.0) ≡ Some y = ap one (at.0 ∙ sym x.1) ∙ is in
    let now = to x.0.id.0 (ap is_some becomes) at.1 in
    ap (entry_at new) (sym now.1) ∙ at_slot new next' numbered' x.0.id.0 y (now.0 ∙ becomes))
  where
    kept : (o : Option ConntrackEntry) (y : ConntrackEntry) → one o ≡ Some y → IsSome o
    kept o y is = grind (arith, none)

-- ---- the entries from a number on

module _ (f : ℕ → Option ConntrackEntry) where
  -- each changes or leaves
  pub held_each : (f' : ℕ → Option ConntrackEntry) (one : Option ConntrackEntry → Option ConntrackEntry)
      (all : List ConntrackEntry → List ConntrackEntry) → all [] ≡ []
      → ((o : Option ConntrackEntry) (held : List ConntrackEntry) → all (cons_held o held) ≡ cons_held (one o) (all held))
      → ((n : ℕ) → f' n ≡ one (f n)) → (first count : ℕ) → held_from f' first count ≡ all (held_from f first count)
  held_each f' one all none step each first zero = sym none
  held_each f' one all none step each first (suc count) =
      ap (λ o. cons_held o (held_from f' (suc first) count)) (each first)
      ∙ ap (λ held. cons_held (one (f first)) held) (held_each f' one all none step each (suc first) count)
      ∙ sym (step (f first) (held_from f (suc first) count))

  -- one more
  pub held_more : (f' : ℕ → Option ConntrackEntry) (h : ConntrackEntry) (first count : ℕ) → ((n : ℕ) → n < first + count → f' n ≡ f n)
      → f' (first + count) ≡ Some h → held_from f' first (suc count) ≡ held_from f first count ++ h ∷ []
  held_more f' h first zero same new =
      let at : first + zero ≡ first = omega arith in ap (λ o. cons_held o []) (ap f' (sym at) ∙ new)
  held_more f' h first (suc count) same new =
      let at : suc first + count ≡ first + suc count = omega arith in
      let rest = held_more f' h (suc first) count (λ n less. same n (omega (arith, less, at))) (ap f' at ∙ new) in
      rw (same first (omega arith)) (step (f first) (held_from f (suc first) count) rest)
    where
      step : (o : Option ConntrackEntry) (held : List ConntrackEntry) {more : List ConntrackEntry} → more ≡ held ++ h ∷ []
          → cons_held o more ≡ cons_held o held ++ h ∷ []
      step None held is = is
      step (Some x) held is = ap (λ hs. x ∷ hs) is

  pub all_pass : (p : ConntrackEntry → Bool) → ((n : ℕ) (h : ConntrackEntry) → f n ≡ Some h → p h ≡ true) → (first count : ℕ)
      → filter p (held_from f first count) ≡ held_from f first count
  all_pass p pass first zero = refl
  all_pass p pass first (suc count) = grind (arith, common_steps, option_cases (f first), pass first, all_pass p pass (suc first) count)

  later_step : (now : ℕ) (o : Option ConntrackEntry) (rest : List ConntrackEntry) → IsNoneLater now (cons_held o rest)
      → (last_by o ≤ now) × IsNoneLater now rest
  later_step now o rest none = grind arith

  pub none_later-at : (now first count : ℕ) → IsNoneLater now (held_from f first count) → (n : ℕ) → first ≤ n → n < first + count
      → last_by (f n) ≤ now
  none_later-at now first zero none n past below = absurd (omega (arith, past, below))
  none_later-at now first (suc count) none n past below =
      let parts = later_step now (f first) (held_from f (suc first) count) none in
      grind (arith, cases_eq first n, parts.0, none_later-at now (suc first) count parts.1 n)

  -- the one entry that passes a test
  pub found_from : (p : ConntrackEntry → Bool) (o : Option ConntrackEntry) (m : ℕ)
      → ((n : ℕ) (h : ConntrackEntry) → f n ≡ Some h → p h ≡ true → o ≡ Some h)
      → ((h : ConntrackEntry) → o ≡ Some h → (p h ≡ true) × (f m ≡ o)) → (first count : ℕ) → (IsSome o → (first ≤ m) × (m < first + count))
      → find p (held_from f first count) ≡ o
  found_from p o m only its first zero reach = grind (arith, common_steps, option_cases o, reach)
  found_from p None m only its first (suc count) reach =
      let rest = found_from p None m only its (suc first) count (λ some. absurd (cc)) in
      grind (arith, common_steps, option_cases (f first), only first, rest)
  found_from p (Some x) m only its first (suc count) reach =
      let past = λ (d : first ≢ m). found_from p (Some x) m only its (suc first) count
      (λ some. (omega (arith, (reach some).0, d), omega (arith, (reach some).1))) in
      grind (arith, common_steps, option_cases (f first), cases_eq first m, only first, its x refl, past)

-- ---- the effect of the calls on slots and lists on the table

-- no other slot changes, but for links
pub record Writes (old new : Slab Slot) (key : ℕ) (slot : Option Slot) : Type 0 where
  pub here : option_map except_links (get new key) ≡ option_map except_links slot
  pub others : (k : ℕ) → k ≢ key → option_map except_links (get new k) ≡ option_map except_links (get old k)

pub writes_between : (old mid mid' new : Slab Slot) (key : ℕ) (slot : Option Slot) → SameBy except_links old mid → Updates mid mid' key slot
    → SameBy except_links mid' new → Writes old new key slot
writes_between old mid mid' new key slot before updates after = grind arith

module _ (t : AgedSlots) (table : IsTable t) (new : Slab Slot) (key : ℕ) (slot : Option Slot) (writes : Writes t.slots new key slot) where
  pub sets : Sets (slots_of t) (held_at new) key (option_map (held_of key) slot)
  sets = grind (arith, kept_by, option_map, writes.here, t.slots, writes.others)

  serial : serial_at new key ≡ serial_by slot
  serial = kept_by serial_by except_links (λ s. refl) slot (get new key) writes.here

  serials : (k : ℕ) → k ≢ key → serial_at new k ≡ serial_at t.slots k
  serials k d = kept_by serial_by except_links (λ s. refl) (get t.slots k) (get new k) (writes.others k d)

  -- it gets the last packet of all
  pub least : (now : ℕ) → last_at (held_at new) key ≡ now → IsNoneLater now (held_by t) → (k : ℕ) → last_at (held_at new) k ≤ last_at (held_at new) key
  least now at none k =
      let late = none_later-at (entry_at t.slots) now 0 t.next_serial none (serial_at t.slots k) in
      let found = at_slot t.slots t.next_serial table.numbered k in
      grind (arith, cases_eq k key, option_cases (slots_of t k), sets.others k, found, late, table.numbered.below k)

  -- moments don't fall along lists without the key
  rising_off : (keys : List ℕ) → ((k : ℕ) → IsIn k keys → k ≢ key) → IsRising (last_at (slots_of t)) keys → IsRising (last_at (held_at new)) keys
  rising_off keys absent =
      rising_as (last_at (slots_of t)) (last_at (held_at new)) keys (λ k found. ap last_by (sets.others k (absent k found)))

  pub rising_left : (q : ℕ) → q < 5 → IsRising (last_at (held_at new)) (off key table.rings.0 q)
  rising_left q range =
      rising_off (without key (table.rings.0 q)) (λ k found. (IsIn-without key k (table.rings.0 q) found).1)
      (IsNonDecreasingBy-filter (last_at (slots_of t)) _ (table.rings.0 q) (table.rising q range))

  pub rising_free : get t.slots key ≡ None → (q : ℕ) → q < 5 → IsRising (last_at (held_at new)) (table.rings.0 q)
  rising_free free q range =
      rising_off (table.rings.0 q) (λ k found. grind (arith, (table.rings.1 q range).owned k found)) (table.rising q range)

  pub rising_pushed : (to : ℕ) (lists : Lists) → ((q : ℕ) → q < 5 → IsRising (last_at (held_at new)) (lists q))
      → ((k : ℕ) → last_at (held_at new) k ≤ last_at (held_at new) key) → (q : ℕ) → q < 5
      → IsRising (last_at (held_at new)) (pushed key to lists q)
  rising_pushed to lists rising most q range =
      grind (arith, pushed_by, IsNonDecreasingBy-push (last_at (held_at new)) (lists q) key, rising q range, most)

  -- the table then
  pub table_after : (heads : List Link) (to : Option ℕ) (change : Lists → Lists) (moments : List ℕ) (next : ℕ)
      → Relists t.slots new t.queues heads key to change → to ≡ option_map queue_of (option_map (held_of key) slot)
      → ((q : ℕ) → q < 5 → IsRising (last_at (held_at new)) (change table.rings.0 q)) → AreOldest (last_at (held_at new)) (change table.rings.0) moments
      → IsNumbered new next → key < MAX_KEYS
      → IsTable (record { slots = new; queues = heads; oldest = moments; next_serial = next })
  table_after heads to change moments next relists queue rising oldest numbered few =
      record {
        rings = (_, relists.rings table.rings.0 table.rings.1);
        owners = λ k. grind (arith, cases_eq k key, sets.changed, sets.others k, relists.here, relists.others k, table.owners k, queue);
        rising = rising;
        numbered = numbered;
        oldest = oldest;
        few = λ k is. grind (arith, cases_eq k key, sets.others k, table.few k, few, is);
      }

  -- ---- the order of creation

  -- a new number is above all others, and an old one is the slot's own
  pub numbered_after : (next : ℕ) → t.next_serial ≤ next
      → (IsSome (held_at new key) → (serial_by slot < next)
      × ((k : ℕ) → IsSome (slots_of t k) → serial_at t.slots k ≡ serial_by slot → k ≡ key)) → IsNumbered new next
  numbered_after next more here = grind (arith, nat_tests, t.slots, table.numbered.apart, cases_eq, serials, serial, table.numbered.below)

  -- the entry changes or leaves, with its number
  pub held_changed : IsNumbered new t.next_serial → (h : ConntrackEntry) → slots_of t key ≡ Some h
      → (one : Option ConntrackEntry → Option ConntrackEntry) (all : List ConntrackEntry → List ConntrackEntry) → all [] ≡ []
      → ((o : Option ConntrackEntry) (held : List ConntrackEntry) → all (cons_held o held) ≡ cons_held (one o) (all held))
      → one None ≡ None → ((x : ConntrackEntry) → x.id.0 ≢ key → one (Some x) ≡ Some x) → one (Some h) ≡ option_map (held_of key) slot
      → (IsSome (held_at new key) → serial_by slot ≡ serial_at t.slots key)
      → held_from (entry_at new) 0 t.next_serial ≡ all (held_by t)
  held_changed numbered h is one all nil step none other here same =
      held_each (entry_at t.slots) (entry_at new) one all nil step
      (λ n. entry_as t.slots new t.next_serial t.next_serial table.numbered numbered one none n
      (λ k some e. (became k, sym (stays k some) ∙ e)) (λ k some e. (became k, stays k (subst IsSome (sym (became k)) some) ∙ e))) 0 t.next_serial
    where
      became : (k : ℕ) → held_at new k ≡ one (slots_of t k)
      became k = grind (arith, cases_eq k key, sets.changed, sets.others k, here, is, option_cases (slots_of t k), none, other, named_at t.slots k)

      stays : (k : ℕ) → IsSome (held_at new k) → serial_at new k ≡ serial_at t.slots k
      stays k some = grind (arith, cases_eq k key, serial, same, serials k, some)

  -- it was free, and has the next number now
  pub held_begun : IsNumbered new (t.next_serial + 1) → slots_of t key ≡ None → serial_by slot ≡ t.next_serial → (h : ConntrackEntry)
      → option_map (held_of key) slot ≡ Some h → held_from (entry_at new) 0 (suc t.next_serial) ≡ held_by t ++ h ∷ []
  held_begun numbered free number h is =
      held_more (entry_at t.slots) (entry_at new) h 0 t.next_serial
      (λ n less. entry_as t.slots new t.next_serial (t.next_serial + 1) table.numbered numbered (λ o. o) refl n
      (λ k some e. let d : k ≢ key = λ a. omega (arith, less, e, ap (serial_at new) a, serial, number) in (sets.others k d, sym (serials k d) ∙ e))
      (λ k some e. let d : k ≢ key = λ a. not_none _ (ap (slots_of t) a ∙ free) some in (sets.others k d, serials k d ∙ e)))
      (ap (entry_at new) (omega (arith, serial, number)) ∙ at_slot new (t.next_serial + 1) numbered key h (sets.changed ∙ is))

-- ---- entries that are sorted by their numbers, which differ, are in the order of creation

-- where no slot has the number of this one, no later entry has it
others_differ : (s : Slot) (key : ℕ) (slots : List (Option Slot)) → ((i : ℕ) (r : Slot) → get_or slots i None ≡ Some r → s.serial ≢ r.serial)
    → AllByRecursion (λ n. eqb s.serial n ≡ false) (keys_of (map numbered_entry (entries_from key slots)))
others_differ s key [] apart = tt
others_differ s key (None ∷ rest) apart = others_differ s (key + 1) rest (λ i. apart (suc i))
others_differ s key (Some r ∷ rest) apart = (ne_eqb _ _ (apart zero r refl), others_differ s (key + 1) rest (λ i. apart (suc i)))

distinct_numbers : (key : ℕ) (slots : List (Option Slot)) → ((i j : ℕ) (s r : Slot) → get_or slots i None ≡ Some s
    → get_or slots j None ≡ Some r → s.serial ≡ r.serial → i ≡ j) → IsDistinct eqb (keys_of (map numbered_entry (entries_from key slots)))
unfolding IsDistinct
distinct_numbers key [] apart = tt
distinct_numbers key (None ∷ rest) apart =
    distinct_numbers (key + 1) rest (λ i j a b at there same. omega (arith, apart (suc i) (suc j) a b at there same))
distinct_numbers key (Some s ∷ rest) apart = (
  others_differ s (key + 1) rest (λ i r at same. omega (arith, apart zero (suc i) s r refl at same)),
  distinct_numbers (key + 1) rest (λ i j a b at there same. omega (arith, apart (suc i) (suc j) a b at there same)),
)

-- whether the numbers of pairs rise from one on
abbrev rise : ℕ → List (ℕ × Connection) → Bool
rise first [] = true
rise first (q ∷ qs) = not (nat_lt q.0 first) && rise (suc q.0) qs

rise_sorted : (first : ℕ) (qs : List (ℕ × Connection)) → IsNonDecreasingBy (λ q. q.0) qs → IsDistinct eqb (keys_of qs)
    → ((d : ℕ × Connection) → 0 < length qs → first ≤ (get_or qs 0 d).0) → rise first qs ≡ true
unfolding IsDistinct
rise_sorted first [] sorted distinct least = refl
rise_sorted first (q ∷ []) sorted distinct least = let le : first ≤ q.0 = least q (omega arith) in grind (arith, nat_tests, le)
rise_sorted first (q ∷ r ∷ qs) sorted distinct least =
    let le : first ≤ q.0 = least q (omega arith) in
    let up : q.0 ≤ r.0 = sorted 0 1 q (omega arith) (omega arith) in
    let d : q.0 ≢ r.0 = λ e. true≢false (sym (eq-eqb q.0 r.0 e) ∙ distinct.0.0) in
    let next : suc q.0 ≤ r.0 = omega (arith, up, d) in
    let rest = rise_sorted (suc q.0) (r ∷ qs) (λ i j d le less. sorted (suc i) (suc j) d (omega (arith, le)) (omega (arith, less))) distinct.1
    (λ d some. next) in
    grind (arith, nat_tests, le, rest)

-- a number below all others has no entry
none_before : (n first : ℕ) (qs : List (ℕ × Connection)) → rise first qs ≡ true → n < first → lookup (eqb n) qs ≡ None
none_before n first [] rises less = refl
none_before n first (q ∷ qs) rises less = grind (arith, nat_tests, none_before n (suc q.0) qs)

-- pairs by rising numbers that give each number its entry are the entries in turn
in_turn : (f : ℕ → Option ConntrackEntry) (first count : ℕ) (qs : List (ℕ × Connection)) → rise first qs ≡ true
    → ((n : ℕ) → first ≤ n → lookup (eqb n) qs ≡ option_map connection_of (f n)) → ((n : ℕ) → first + count ≤ n → f n ≡ None)
    → connections_by qs ≡ map connection_of (held_from f first count)
in_turn f first zero [] rises found end = refl
in_turn f first zero (q ∷ qs) rises found end = grind (arith, nat_tests, found q.0, end q.0)
in_turn f first (suc count) [] rises found end =
    let rest = in_turn f (suc first) count [] refl (λ n le. found n (omega (arith, le))) (λ n le. end n (omega (arith, le))) in
    grind (arith, common_steps, option_cases (f first), found first, rest)
in_turn f first (suc count) (q ∷ qs) rises found end =
    let ends : (n : ℕ) → suc first + count ≤ n → f n ≡ None = λ n le. end n (omega (arith, le)) in
    elim (cases_eq q.0 first) [
      | inl e ↦
          let rest = in_turn f (suc first) count qs (subst (λ k. rise (suc k) qs ≡ true) e (and_parts _ _ rises).1) (λ n le.
          sym (lookup_tail (eqb n) q qs (ne_eqb n q.0 (λ same. omega (arith, le, e, same)))) ∙ found n (omega (arith, le))) ends in
          grind (arith, nat_tests, common_steps, e, option_cases (f first), found first, rest)
      | inr d ↦
          let up : rise (suc first) (q ∷ qs) ≡ true = grind (arith, nat_tests, d) in
          let none = none_before first (suc first) (q ∷ qs) up (omega arith) in
          let rest = in_turn f (suc first) count (q ∷ qs) up (λ n le. found n (omega (arith, le))) ends in
          grind (arith, common_steps, option_cases (f first), found first, none, rest)
    ]

-- ---- slots that were sorted

pub listed_order : (slots : Slab Slot) (qs : List (ℕ × Connection)) (next : ℕ) → IsNumbered slots next
    → IsPermutation (map numbered_entry (entries slots)) qs → IsNonDecreasingBy (λ q. q.0) qs
    → connections_by qs ≡ map connection_of (held_from (entry_at slots) 0 next)
listed_order slots qs next numbered moved sorted =
    let entry : (k : ℕ) (s : Slot) → get slots k ≡ Some s → held_at slots k ≡ Some (held_of k s) = λ k s is. ap (option_map (held_of k)) is in
    let distinct = IsDistinct-IsPermutation eqb (λ x y. grind (arith, nat_tests)) _ _ (IsPermutation-map (λ q. q.0) _ _ moved)
    (distinct_numbers 0 slots.slots (λ i j s r at there same. numbered.apart i j (ap is_some (entry i s at)) (ap is_some (entry j r there))
    (ap serial_by at ∙ same ∙ sym (ap serial_by there)))) in
    in_turn (entry_at slots) 0 next qs (rise_sorted 0 qs sorted distinct (λ d some. omega arith)) (λ n le. same_options _ _ (λ x is.
    let e = Contains-unmap numbered_entry (entries slots) (n, x)
    (Contains-permutation _ _ _ (IsPermutation-sym _ _ moved) (Contains-from_lookup eqb-true n x qs is)) in
    let at = (Contains-entries slots e.0.0 e.0.1).0 e.1 in
    let number : serial_at slots e.0.0 ≡ n = ap serial_by at ∙ ap (λ (p : ℕ × Connection). p.0) e.2 in
    ap (λ m. option_map connection_of (entry_at slots m)) (sym number)
    ∙ ap (option_map connection_of) (at_slot slots next numbered e.0.0 _ (entry e.0.0 e.0.1 at)) ∙ ap (λ (p : ℕ × Connection). Some p.1) e.2)
    (λ x is.
    let h = some_of_map connection_of (entry_at slots n) x is in
    let at = of_slot slots n h.0 h.1 in
    let s = some_of (get slots h.0.id.0) (slot_by slots h.0.id.0 (ap is_some at.0)) in
    let same : held_of h.0.id.0 s.0 ≡ h.0 = same_Some _ h.0 (sym (entry h.0.id.0 s.0 s.1) ∙ at.0) in
    let number : s.0.serial ≡ n = sym (ap serial_by s.1) ∙ at.1 in
    lookup-from_Contains nat_eq_equiv n x qs distinct (subst (Contains qs) (λ i. (number i, (ap connection_of same ∙ h.2) i))
    (Contains-permutation _ _ _ moved (Contains-map numbered_entry (entries slots) (h.0.id.0, s.0) ((Contains-entries slots h.0.id.0 s.0).1 s.1))))))
    (λ n past. elim (option_cases (entry_at slots n)) [
      | inl none ↦ none
      | inr h ↦ let at = of_slot slots n h.0 h.1 in absurd (omega (arith, past, at.1, numbered.below h.0.id.0 (ap is_some at.0)))
    ])

-- ---- a queue's front is its oldest entry, so if the front is live all are

pub queue_of-range : (h : ConntrackEntry) → queue_of h < 5
queue_of-range h = grind arith

limit_of-at : (limits : Limits) (h : ConntrackEntry) (q : ℕ) → queue_of h ≡ q → limit_of limits h ≡ limit_at limits q
limit_of-at limits h q is = grind arith

module _ (limits : Limits) (t : AgedSlots) (now q : ℕ) (table : IsTable t) (range : q < 5) where
  listed : (key : ℕ) (h : ConntrackEntry) → slots_of t key ≡ Some h → queue_of h ≡ q → IsIn key (table.rings.0 q)
  listed key h is at = (table.rings.1 q range).listed key (table.owners key ∙ ap (λ o. option_map queue_of o) is ∙ ap Some at)

  pub queue_empty : slice_get (table.rings.0 q) 0 ≡ None → IsLiveQueue limits (slots_of t) now q
  queue_empty none k h is at = absurd (none_in (table.rings.0 q) k none (listed k h is at))

  module _ (key : ℕ) (front : slice_get (table.rings.0 q) 0 ≡ Some key) where
    pub queue_live : now < get_or t.oldest q 0 + limit_at limits q → 0 < limit_at limits q → IsLiveQueue limits (slots_of t) now q
    queue_live live some k h is at =
        let least = rising_first (last_at (slots_of t)) (table.rings.0 q) key k (table.rising q range) front (listed k h is at) in
        grind (arith, nat_tests, least, table.oldest q range key front, limit_of-at limits h q at, live, some)

    pub front_expired : get_or t.oldest q 0 + limit_at limits q ≤ now
        → IfSome (slots_of t key) (λ h. is_live limits now h ≡ false) × IsSome (slots_of t key)
    front_expired expired =
        let owned = front_owned t.slots t.queues table.rings.0 table.rings.1 q key range front in
        let found = some_of_map queue_of (slots_of t key) q in
        grind (arith, nat_tests, table.owners key, owned, found, table.oldest q range key front, limit_of-at limits)

pub all_live : (limits : Limits) (t : AgedSlots) (now : ℕ) → ((q : ℕ) → q < 5 → IsLiveQueue limits (slots_of t) now q)
    → IsAllLive limits (slots_of t) now
all_live limits t now each key h is = each (queue_of h) (queue_of-range h) key h is refl

-- ---- until when all entries are live

positive : (limits : Limits) (kind : IdleKind) → 0 < limit_for limits kind
positive limits idle.Udp = grind (arith, nat_tests, limits.positive)
positive limits idle.Established = grind (arith, nat_tests, limits.positive)
positive limits idle.Transitory = grind (arith, nat_tests, limits.positive)
positive limits idle.Echo = grind (arith, nat_tests, limits.positive)
positive limits idle.Other = grind (arith, nat_tests, limits.positive)

least_limit : (limits : Limits) (h : ConntrackEntry) → 1000000000 ≤ limit_of limits h
least_limit limits h = let some = positive limits (idle_kind h.original.kind (phase_of h)) in omega (arith, some)

pub touched_lasts : (direction : Direction) (flags : Flags) (mark now : ℕ) {until : ℕ} (slot : Option ConntrackEntry) → until < now + 1000000000
    → IfSome (option_map (touched direction flags mark now) slot) (λ h. until < h.last + 1000000000)
touched_lasts direction flags mark now None less = tt
touched_lasts direction flags mark now (Some h) less = less

-- one entry is set, which has expired by then no more than the others
pub lasting : (limits : Limits) {old new : ℕ → Option ConntrackEntry} {key : ℕ} {slot : Option ConntrackEntry} → Sets old new key slot
    → {before until : ℕ} → AreLiveUntil limits old before → until ≤ before → IfSome slot (λ h. until < h.last + 1000000000)
    → AreLiveUntil limits new until
lasting limits sets live sooner last moment within k h is =
    grind (arith, nat_tests, sets.changed, sets.others k, live moment, least_limit limits h)
