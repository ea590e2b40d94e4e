-- Circular lists of slots: their keys, links, changes and fronts.
use Rattle.aged_tracker.proofs.Names.{AreOldest, AreOldestBut, ConntrackEntry, HasRings, IfNone, IfSome, Inserts, IsApart, IsIn, IsNode, IsOn, IsRing}
use Rattle.aged_tracker.proofs.Names.{IsRing-kept, IsRing-push, IsRing-skip, IsRings, IsRising, IsSome, Joins, Link, List, Lists, Next, None, Option}
use Rattle.aged_tracker.proofs.Names.{Previous, Relinks, Relists, SameBy, Slab, Slot, Some, Updates, [], ap, arith, cases_eq, cond-true, except_links, get}
use Rattle.aged_tracker.proofs.Names.{get_or, get_or-set_other, get_or-set_same, held_at, held_of, inl, inr, is_first, is_some, length, link_at, link_by}
use Rattle.aged_tracker.proofs.Names.{nat_tests, ne_eqb, neighbour, next_of, next_on, none-some, not_from_false, off, option_map, owner_by, owner_of}
use Rattle.aged_tracker.proofs.Names.{prev_end_on, prev_of, prev_on, pushed, refl, rings_apart, same_Some, set, slice_get, some_of_map, subst, suc, sym, true}
use Rattle.aged_tracker.proofs.Names.{without, without_absent, without_head, zero, ℕ, ◌++◌, ◌+◌, ◌-◌, ◌<◌, ◌∙◌, ◌∷◌, ◌≡◌, ◌≢◌, ◌≤◌, ◌⊎◌}
use Rattle.futures.specs.Links as ring

-- ---- lists of distinct keys

pub without_past : (key first : ℕ) (rest : List ℕ) → first ≢ key → without key (first ∷ rest) ≡ first ∷ without key rest
without_past key first rest other = cond-true _ _ _ (not_from_false _ (ne_eqb first key other))

pub IsIn-push_last : (key : ℕ) (keys : List ℕ) → IsIn key (keys ++ key ∷ [])
IsIn-push_last key [] = inl refl
IsIn-push_last key (first ∷ rest) = inr (IsIn-push_last key rest)

IsIn-at : (keys : List ℕ) (i d : ℕ) → i < length keys → IsIn (get_or keys i d) keys
IsIn-at [] i d within = absurd (omega (arith, within))
IsIn-at (first ∷ rest) zero d within = inl refl
IsIn-at (first ∷ rest) (suc i) d within = inr (IsIn-at rest i d (omega (arith, within)))

IsIn-index : (key : ℕ) (keys : List ℕ) → IsIn key keys → (i : ℕ) × ((i < length keys) × (get_or keys i key ≡ key))
IsIn-index key [] found = absurd found
IsIn-index key (first ∷ rest) found =
    elim found [
      | inl here ↦ (zero, (omega arith, here))
      | inr there ↦ let at = IsIn-index key rest there in (suc at.0, (omega (arith, at.1.0), at.1.1))
    ]

-- the first key, which has the least moment
pub IsIn-first : (keys : List ℕ) (front : ℕ) → slice_get keys 0 ≡ Some front → IsIn front keys
IsIn-first [] front is = absurd (none-some front is)
IsIn-first (first ∷ rest) front is = inl (same_Some first front is)

pub first_is : (key : ℕ) (keys : List ℕ) (front : ℕ) → slice_get keys 0 ≡ Some front → is_first key keys ≡ true → front ≡ key
first_is key keys front is test = grind (arith, nat_tests)

pub is_first-of : (key : ℕ) (keys : List ℕ) → slice_get keys 0 ≡ Some key → is_first key keys ≡ true
is_first-of key keys is = grind (arith, nat_tests)

pub none_in : (keys : List ℕ) (key : ℕ) → slice_get keys 0 ≡ None → ¬ IsIn key keys
none_in [] key none found = found
none_in (first ∷ rest) key none found = none-some first (sym none)

pub rising_first : (f : ℕ → ℕ) (keys : List ℕ) (front key : ℕ) → IsRising f keys → slice_get keys 0 ≡ Some front → IsIn key keys → f front ≤ f key
rising_first f [] front key rising is found = absurd found
rising_first f (first ∷ rest) front key rising is found =
    let at = IsIn-index key (first ∷ rest) found in
    omega (arith, rising zero at.0 key (omega arith) at.1.0, ap f at.1.1, ap f (same_Some first front is))

-- moments that are the same along the keys
pub rising_as : (f g : ℕ → ℕ) (keys : List ℕ) → ((k : ℕ) → IsIn k keys → g k ≡ f k) → IsRising f keys → IsRising g keys
rising_as f g keys same rising i j d le less = grind (arith, IsIn-at)

-- ---- the links after a write to a slot or a head

pub some_of : {X : Type 0} (o : Option X) → IsSome o → (x : X) × (o ≡ Some x)
some_of o is = grind arith

-- a function of slots that reads only what a write keeps
pub kept_by : {X : Type 0} (f : Option Slot → X) (keep : Slot → Slot) → ((s : Slot) → f (Some s) ≡ f (Some (keep s)))
    → (old new : Option Slot) → option_map keep new ≡ option_map keep old → f new ≡ f old
kept_by f keep alike old new same = grind arith

-- a write of links keeps the entries
pub held_aside : (old new : Slab Slot) → SameBy except_links old new → (k : ℕ) → held_at new k ≡ held_at old k
held_aside old new same k = kept_by (option_map (held_of k)) except_links (λ s. refl) (get old k) (get new k) (same k)

-- each entry has its slot's key as id
pub named_at : (slots : Slab Slot) (key : ℕ) (h : ConntrackEntry) → held_at slots key ≡ Some h → h.id.0 ≡ key
named_at slots key h is = ap (λ (x : ConntrackEntry). x.id.0) (sym (some_of_map (held_of key) (get slots key) h is).2)

-- the links after a write to a slot that keeps its own
links_as : (old new : Slab Slot) (heads : List Link) (key : ℕ) (slot : Option Slot) → Updates old new key slot → (p : ℕ)
    → (p ≡ 5 + key → link_by slot ≡ link_by (get old key)) → link_at new heads p ≡ link_at old heads p
links_as old new heads key slot updates p kept = grind arith

pub aside_place : (old new : Slab Slot) → SameBy except_links old new → (p : ℕ) → IsNode old p → IsNode new p
aside_place old new same p is above = kept_by is_some except_links (λ s. refl) (get old (p - 5)) (get new (p - 5)) (same (p - 5)) ∙ is above

-- a node of a circular list exists
pub on_place : (slots : Slab Slot) (heads : List Link) (list : ℕ) (keys : List ℕ) (p : ℕ) → list < 5
    → IsRing slots heads list keys → IsOn 5 list keys p → IsNode slots p
on_place slots heads list keys p range ring on above = grind arith

-- ---- circular lists after a key left one or joined one, or after a write that keeps them

-- the list that a key was pushed to, and the others
pub pushed_by : (P : List ℕ → Type 0) (key to list : ℕ) (lists : Lists) → (list ≡ to → P (lists list ++ key ∷ []))
    → (list ≢ to → P (lists list)) → P (pushed key to lists list)
pushed_by P key to list lists here there = grind arith

-- nodes of two lists differ
apart : (slots : Slab Slot) (heads : List Link) (lists : Lists) → IsRings slots heads lists → (list other p q : ℕ) → list < 5
    → other < 5 → other ≢ list → IsOn 5 list (lists list) q → IsOn 5 other (lists other) p → p ≢ q
apart slots heads lists rings list other p q range range' differs on on' e =
    rings_apart (next_of slots heads) (prev_of slots heads) 5 (owner_of slots) list other (lists list) (lists other) q range range'
    differs (rings list range) (rings other range') on (subst (IsOn 5 other (lists other)) e on')

-- a list doesn't lead to a slot that is in none
off_free : (slots : Slab Slot) (heads : List Link) (lists : Lists) → IsRings slots heads lists → (key : ℕ) → owner_of slots key ≡ None
    → (list p : ℕ) → list < 5 → IsOn 5 list (lists list) p → p ≢ 5 + key
off_free slots heads lists rings key free list p range on e = grind arith

module _ (old new : Slab Slot) (heads heads' : List Link) (key : ℕ) where
  -- a list that the key is in neither before nor after stays, if the links along it do
  ring_beside : (list : ℕ) (keys : List ℕ) → IsRing old heads list keys → owner_of old key ≢ Some list → owner_of new key ≢ Some list
      → ((k : ℕ) → k ≢ key → owner_of new k ≡ owner_of old k)
      → ((p : ℕ) → IsOn 5 list keys p → next_of new heads' p ≡ next_of old heads p)
      → ((p : ℕ) → IsOn 5 list keys p → prev_of new heads' p ≡ prev_of old heads p) → IsRing new heads' list keys
  ring_beside list keys ring was is others nexts prevs =
      IsRing-kept _ _ _ _ 5 _ _ list keys ring nexts prevs
      (λ k o. others k (λ e. was (ap (owner_of old) (sym e) ∙ o)) ∙ o)
      (λ k o. sym (others k (λ e. is (ap (owner_of new) (sym e) ∙ o))) ∙ o)

  -- the neighbours of the key are linked to each other, and it is in no list
  pub record Skipped : Type 0 where
    pub next : Joins (next_of old heads) (next_of new heads') (prev_of old heads (5 + key)) (next_of old heads (5 + key))
    pub prev : Joins (prev_of old heads) (prev_of new heads') (next_of old heads (5 + key)) (prev_of old heads (5 + key))
    pub left : owner_of new key ≡ None
    pub others : (k : ℕ) → k ≢ key → owner_of new k ≡ owner_of old k

  pub relists_left : Skipped → (list : ℕ) → list < 5 → owner_of old key ≡ Some list → Relists old new heads heads' key None (off key)
  relists_left skipped list range owned =
      record {
        rings = λ lists rings l r.
            let own = rings list range in
            let found : IsIn key (lists list) = own.listed key owned in
            elim (cases_eq l list) [
              | inl e ↦ IsRing-skip _ _ _ _ 5 _ _ l (lists l) key r (rings l r) (owned ∙ ap Some (sym e)) skipped.next skipped.prev
                  skipped.left skipped.others
              | inr d ↦
                  let other : owner_of old key ≢ Some l = λ o. d (same_Some l list (sym o ∙ owned)) in
                  subst (IsRing new heads' l) (sym (without_absent key (lists l) (λ f. other ((rings l r).owned key f))))
                  (ring_beside l (lists l) (rings l r) other (λ o. none-some l (sym skipped.left ∙ o)) skipped.others
                  (λ p on. skipped.next.others p (apart old heads lists rings list l p _ range r d
                  (prev_on _ _ 5 list (lists list) list key own.chained found) on))
                  (λ p on. skipped.prev.others p (apart old heads lists rings list l p _ range r d
                  (next_on _ _ 5 list (lists list) list key own.chained found) on)))
            ];
        here = skipped.left;
        others = skipped.others;
      }

  -- the key is the last of the list
  pub record Spliced (list : ℕ) : Type 0 where
    pub links : Inserts (next_of old heads) (prev_of old heads) (next_of new heads') (prev_of new heads') (prev_of old heads list)
        (5 + key) list
    pub joined : owner_of new key ≡ Some list
    pub others : (k : ℕ) → k ≢ key → owner_of new k ≡ owner_of old k

  pub relists_pushed : (list : ℕ) → Spliced list → list < 5 → owner_of old key ≡ None
      → Relists old new heads heads' key (Some list) (pushed key list)
  relists_pushed list spliced range free =
      record {
        rings = λ lists rings l r. pushed_by (IsRing new heads' l) key list l lists
            (λ e. subst (λ m. IsRing new heads' m (lists m ++ key ∷ [])) (sym e)
            (IsRing-push _ _ _ _ 5 _ _ list (lists list) key range (rings list range) free spliced.links spliced.joined spliced.others))
            (λ d. ring_beside l (lists l) (rings l r) (λ o. none-some l (sym free ∙ o))
            (λ o. d (same_Some l list (sym o ∙ spliced.joined))) spliced.others
            (λ p on. spliced.links.nexts p (apart old heads lists rings list l p _ range r d
            (prev_end_on _ _ 5 list (lists list) list (rings list range).chained) on) (off_free old heads lists rings key free l p r on))
            (λ p on. spliced.links.prevs p (apart old heads lists rings list l p list range r d (inl refl) on)
            (off_free old heads lists rings key free l p r on)));
        here = spliced.joined;
        others = spliced.others;
      }

-- a write that keeps the list of a slot, and its links if it is in one
pub relists_written : (old new : Slab Slot) (heads : List Link) (key : ℕ) (slot : Option Slot) → Updates old new key slot
    → owner_by slot ≡ owner_of old key → (owner_of old key ≡ None) ⊎ (link_by slot ≡ link_by (get old key))
    → Relists old new heads heads key (owner_of old key) (λ lists. lists)
relists_written old new heads key slot updates owner link =
    let owners : (k : ℕ) → owner_of new k ≡ owner_of old k = λ k. grind (arith, cases_eq k key, updates.others k, updates.changed) in
    record {
      rings = λ lists rings l r.
          let same : (p : ℕ) → IsOn 5 l (lists l) p → link_at new heads p ≡ link_at old heads p = λ p on.
          links_as old new heads key slot updates p
          (λ e. elim link [ inl free ↦ absurd (off_free old heads lists rings key free l p r on e) | inr kept ↦ kept ]) in
          IsRing-kept _ _ _ _ 5 _ _ l (lists l) (rings l r) (λ p on. ap (neighbour Next) (same p on)) (λ p on. ap (neighbour Previous) (same p on))
          (λ k is. owners k ∙ is) (λ k is. sym (owners k) ∙ is);
      here = owners key;
      others = λ k d. owners k;
    }

-- one change of the lists after another
pub relists_then : (a b c : Slab Slot) (ha hb hc : List Link) (key : ℕ) (at to : Option ℕ) (f g : Lists → Lists)
    → Relists a b ha hb key at f → Relists b c hb hc key to g → Relists a c ha hc key to (λ lists. g (f lists))
relists_then a b c ha hb hc key at to f g one two = grind arith

-- a write of the links of one node keeps this part of all
pub unmoved : (part : Link → ℕ) (old new : ℕ → Link) (node : ℕ) (link : Link) → Relinks old new node link
    → part link ≡ part (old node) → (p : ℕ) → part (new p) ≡ part (old p)
unmoved part old new node link relinks was p = grind (arith, cases_eq p node, relinks.here, relinks.others p)

-- the links of one node are set between writes that keep this part of links
pub joined : (part : Link → ℕ) (old new mid mid' : ℕ → Link) (at : ℕ) (link : Link) → Relinks mid mid' at link
    → ((p : ℕ) → part (mid p) ≡ part (old p)) → ((p : ℕ) → part (new p) ≡ part (mid' p))
    → Joins (λ p. part (old p)) (λ p. part (new p)) at (part link)
joined part old new mid mid' at link set before after = grind arith

-- ---- the first and the last key of a list, and the moments of the fronts of queues

module _ (next prev : ℕ → ℕ) (list : ℕ) where
  pub first_read : (keys : List ℕ) (r : Option ℕ) → list < 5 → ring.IsChain next prev 5 list keys list → IfSome r (λ key. next list ≡ 5 + key)
      → IfNone r (next list < 5) → r ≡ slice_get keys 0
  first_read [] None range chain some none = refl
  first_read [] (Some key) range chain some none = absurd (omega (arith, range, chain.0, some))
  first_read (first ∷ rest) None range chain some none = absurd (omega (arith, chain.0, none))
  first_read (first ∷ rest) (Some key) range chain some none = ap Some (omega (arith, chain.0, some))

  -- the key that the head leads back to is the last
  last_from : (key from first : ℕ) (rest : List ℕ) → ring.IsChain next prev 5 from (first ∷ rest) list
      → IsApart (first ∷ rest) → prev list ≡ 5 + key → without key (first ∷ rest) ++ key ∷ [] ≡ first ∷ rest
  last_from key from first [] chain apart end = grind (arith, nat_tests, without_head)
  last_from key from first (second ∷ rest) chain apart end =
      let rec = last_from key (5 + first) second rest chain.2 apart.1 end in
      let there = subst (IsIn key) rec (IsIn-push_last key (without key (second ∷ rest))) in
      grind (arith, nat_tests, rec, there, apart.0, without_past key first (second ∷ rest))

  last_at_end : (key : ℕ) (keys : List ℕ) → list < 5 → ring.IsChain next prev 5 list keys list → IsApart keys → prev list ≡ 5 + key
      → without key keys ++ key ∷ [] ≡ keys
  last_at_end key [] range chain apart end = absurd (omega (arith, range, chain.1, end))
  last_at_end key (first ∷ rest) range chain apart end = last_from key list first rest chain apart end

pub front_owned : (slots : Slab Slot) (heads : List Link) (lists : Lists) → IsRings slots heads lists → (q front : ℕ) → q < 5
    → slice_get (lists q) 0 ≡ Some front → owner_of slots front ≡ Some q
front_owned slots heads lists rings q front range is = (rings q range).owned front (IsIn-first (lists q) front is)

-- the last slot of a list is at the end of it already
module _ (slots : Slab Slot) (heads : List Link) (key list : ℕ) (range : list < 5) (end : prev_of slots heads list ≡ 5 + key) where
  at_end : (lists : Lists) → IsRings slots heads lists → without key (lists list) ++ key ∷ [] ≡ lists list
  at_end lists rings = let ring = rings list range in last_at_end _ _ list key (lists list) range ring.chained ring.apart end

  last_owned : (lists : Lists) → IsRings slots heads lists → owner_of slots key ≡ Some list
  last_owned lists rings = (rings list range).owned key (subst (IsIn key) (at_end lists rings) (IsIn-push_last key (without key (lists list))))

  pub last_stays : (lists : Lists) → IsRings slots heads lists → (l : ℕ) → l < 5 → pushed key list (off key lists) l ≡ lists l
  last_stays lists rings l r = grind (arith, pushed_by, without_absent, rings l r, last_owned lists rings, at_end lists rings)

  pub relists_last : HasRings slots heads → Relists slots slots heads heads key (Some list) (λ lists. pushed key list (off key lists))
  relists_last known = grind (arith, last_stays, last_owned, known.0, known.1)

-- ---- the moments of fronts

-- the moments of all other slots stay
pub oldest_as : (key : ℕ) (last last' : ℕ → ℕ) (lists : Lists) (moments : List ℕ) → ((k : ℕ) → k ≢ key → last' k ≡ last k)
    → AreOldestBut key last lists moments → AreOldestBut key last' lists moments
oldest_as key last last' lists moments same oldest q range front is d = oldest q range front is d ∙ sym (same front d)

-- the key goes to the end of a queue
pub oldest_pushed : (key to : ℕ) (last : ℕ → ℕ) (lists : Lists) (moments : List ℕ) → AreOldestBut key last lists moments
    → AreOldestBut key last (pushed key to lists) moments
oldest_pushed key to last lists moments oldest q range front is d =
    oldest q range front (pushed_by (λ keys. slice_get keys 0 ≡ Some front → slice_get (lists q) 0 ≡ Some front) key to q lists (λ e. before (lists q))
    (λ n was. was) is) d
  where
    before : (keys : List ℕ) → slice_get (keys ++ key ∷ []) 0 ≡ Some front → slice_get keys 0 ≡ Some front
    before [] is = absurd (d (sym (same_Some key front is)))
    before (first ∷ rest) is = is

-- the key leaves its queue, whose front is noted
pub oldest_left : (slots : Slab Slot) (heads : List Link) (key list moment : ℕ) (last : ℕ → ℕ) (lists : Lists) (moments : List ℕ)
    → IsRings slots heads lists → owner_of slots key ≡ Some list → list < length moments
    → ((front : ℕ) → slice_get (off key lists list) 0 ≡ Some front → moment ≡ last front)
    → AreOldestBut key last lists moments → AreOldest last (off key lists) (set moments list moment)
oldest_left slots heads key list moment last lists moments rings owned within noted oldest q range front is =
    grind (arith, cases_eq, get_or, get_or-set_same, same_Some, without_absent, get_or-set_other, IsIn-first)
