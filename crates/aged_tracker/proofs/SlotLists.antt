-- Slots, put together from the lists that they are stored in.
use Rattle.std.proofs.Common.{IsSome, List, None, Option, Some, [], add-zero, ap, arith, cond, get_or, is_some, length}
use Rattle.std.proofs.Common.{map, refl, set, subst, suc, sym, zero, zero-add}
use Rattle.std.proofs.Common.{ℕ, ◌&&◌, ◌+◌, ◌<◌, ◌∙◌, ◌∷◌, ◌≡◌, ◌≢◌, ◌≤◌, ◌-◌}
use Rattle.std.specs.Prelude.{IsTrue, count_by, nat_lt, option_map}
use Rattle.std.proofs.lemmas.List.{get_or-set_other, get_or-set_same}
use Rattle.std.proofs.lemmas.List.Sums.{sum_by-cons, sum_by-set}
use Rattle.std.proofs.lemmas.Bool.{cases_Bool, cases_eq}
use Rattle.std.proofs.lemmas.Bool.Decides.{nat_tests}
use Rattle.list_laws.specs.Options.{option_cases}
use Rattle.slab.specs.Slab.{ContainsKey, HasRoomFor, Slab, Updates, entries, entries_from, get, slab_len, with_value}
use Rattle.slab.proofs.SlabLemmas.{ContainsKey-within}
use Rattle.conntrack.specs.declared.connection.Connection.{Connection}
use Rattle.aged_tracker.specs.declared.slot.ColdSlot.{ColdSlot}
use Rattle.aged_tracker.specs.declared.slot.HotSlot.{HotSlot}
use Rattle.aged_tracker.specs.declared.slot.Link.{Link}
use Rattle.aged_tracker.specs.declared.slot.ListLinks.{ListLinks}
use Rattle.aged_tracker.specs.declared.slot.Slot.{Slot}
use Rattle.aged_tracker.specs.steps.SlotLists.{IsStored, cold_of, has_place, link_of, map_slots, slot_at, unlinked}
use Rattle.aged_tracker.specs.steps.SlotLists.{unused, whole, whole_slot}
use Rattle.aged_tracker.specs.steps.Table.{Placed, SameSize, numbered_entry, owner_by}

module _ {A B : Type 0} where
  pub get-map_slots : (f : ℕ → A → B) (first : ℕ) (slots : List (Option A)) (k : ℕ)
      → get_or (map_slots f first slots) k None ≡ option_map (f (first + k)) (get_or slots k None)
  get-map_slots f first [] k = refl
  get-map_slots f first (slot ∷ rest) zero = ap (λ n. option_map (f n) slot) (sym (add-zero first))
  get-map_slots f first (slot ∷ rest) (suc k) =
      let shift : first + 1 + k ≡ first + suc k = omega arith in
      get-map_slots f (first + 1) rest k ∙ ap (λ n. option_map (f n) (get_or rest k None)) shift

  pub count-map_slots : (f : ℕ → A → B) (first : ℕ) (slots : List (Option A))
      → count_by is_some (map_slots f first slots) ≡ count_by is_some slots
  count-map_slots f first [] = refl
  count-map_slots f first (None ∷ rest) =
      omega (
        arith,
        count-map_slots f (first + 1) rest,
        sum_by-cons (λ (o : Option A). cond (is_some o) 1 0) None rest,
        sum_by-cons (λ (o : Option B). cond (is_some o) 1 0) None (map_slots f (first + 1) rest),
      )
  count-map_slots f first (Some x ∷ rest) =
      omega (
        arith,
        count-map_slots f (first + 1) rest,
        sum_by-cons (λ (o : Option A). cond (is_some o) 1 0) (Some x) rest,
        sum_by-cons (λ (o : Option B). cond (is_some o) 1 0) (Some (f first x)) (map_slots f (first + 1) rest),
      )

  pub entries-map_slots : (f : ℕ → A → B) (first : ℕ) (slots : List (Option A))
      → entries_from first (map_slots f first slots) ≡ map (λ (p : ℕ × A). (p.0, f p.0 p.1)) (entries_from first slots)
  entries-map_slots f first [] = refl
  entries-map_slots f first (None ∷ rest) = entries-map_slots f (first + 1) rest
  entries-map_slots f first (Some x ∷ rest) =
      ap (λ more. (first, f first x) ∷ more) (entries-map_slots f (first + 1) rest)

-- the number of an entry, and the entry as it is listed
abbrev pub numbered_stored : List ColdSlot → ℕ × HotSlot → ℕ × Connection
numbered_stored cold entry = numbered_entry (entry.0, whole_slot unlinked (cold_of cold entry.0) entry.1)

numbered_alike : (links : List Link) (cold : List ColdSlot) (xs : List (ℕ × HotSlot))
    → map numbered_entry (map (λ (p : ℕ × HotSlot). (p.0, slot_at links cold p.0 p.1)) xs)
    ≡ map (numbered_stored cold) xs
numbered_alike links cold [] = refl
numbered_alike links cold (x ∷ xs) = ap (λ more. numbered_stored cold x ∷ more) (numbered_alike links cold xs)

module _ (hot : Slab HotSlot) (links : List Link) (cold : List ColdSlot) where
  get_whole : (key : ℕ) → get (whole hot links cold) key ≡ option_map (slot_at links cold key) (get hot key)
  get_whole key =
      get-map_slots (slot_at links cold) 0 hot.slots key
      ∙ ap (λ n. option_map (slot_at links cold n) (get hot key)) (zero-add key)

  len_whole : slab_len (whole hot links cold) ≡ slab_len hot
  len_whole = count-map_slots (slot_at links cold) 0 hot.slots

  -- where all lists have room for one more, it is reserved
  pub room_whole : HasRoomFor hot 1 → hot.vacant_key < length links → hot.vacant_key < length cold
      → IsTrue (nat_lt (slab_len (whole hot links cold)) (whole hot links cold).capacity)
  room_whole room linked begun = grind (arith, nat_tests, len_whole)

-- what contracts see of slots that are stored so
module _ (hot : Slab HotSlot) (links : List Link) (cold : List ColdSlot) (slots : Slab Slot)
    (view_is : whole hot links cold ≡ slots) where
  pub get_view : (key : ℕ) → get slots key ≡ option_map (slot_at links cold key) (get hot key)
  get_view key = ap (λ s. get s key) (sym view_is) ∙ get_whole hot links cold key

  pub get_used : (key : ℕ) (slot : HotSlot) → get hot key ≡ Some slot
      → get slots key ≡ Some (slot_at links cold key slot)
  get_used key slot is = get_view key ∙ ap (option_map (slot_at links cold key)) is

  pub len_view : slab_len slots ≡ slab_len hot
  len_view = ap slab_len (sym view_is) ∙ len_whole hot links cold

  -- a used key is used in the list of what packets use
  pub stored_key : (key : ℕ) → ContainsKey slots key → ContainsKey hot key
  stored_key key is = grind (arith, option_cases (get hot key), get_view key)

  -- where one more is reserved, all lists have room for it
  pub room_stored : IsTrue (nat_lt (slab_len slots) slots.capacity)
      → HasRoomFor hot 1 × ((hot.vacant_key < length links) × (hot.vacant_key < length cold))
  room_stored room =
      let seen : IsTrue (nat_lt (slab_len (whole hot links cold)) (whole hot links cold).capacity)
      = rw (← view_is) at room in
      grind (arith, nat_tests, seen, len_whole hot links cold, cases_Bool (has_place links cold hot.vacant_key))

  -- the numbers of entries, and the entries as they are listed
  pub numbered_view : map numbered_entry (entries slots) ≡ map (numbered_stored cold) (entries hot)
  numbered_view =
      ap (λ s. map numbered_entry (entries s)) (sym view_is)
      ∙ ap (map numbered_entry) (entries-map_slots (slot_at links cold) 0 hot.slots)
      ∙ numbered_alike links cold (entries hot)

len-with_value : (s : Slab HotSlot) (key : ℕ) (value : HotSlot) → ContainsKey s key
    → slab_len (with_value s key value) ≡ slab_len s
len-with_value s key value is =
    let one : ◌≡◌ {A = ℕ} (cond (is_some (get s key)) 1 0) 1 = ap (λ b. cond b 1 0) is in
    omega (
      arith,
      one,
      sum_by-set (λ o. cond (is_some o) 1 0) s.slots key (Some value) None
          (ContainsKey-within s key is),
    )

module _ (s : Slab HotSlot) (links links' : List Link) (cold : List ColdSlot)
    (long : length links' ≡ length links) where
  pub size_linked : SameSize (whole s links cold) (whole s links' cold)
  size_linked = (
    len_whole s links' cold ∙ sym (len_whole s links cold),
    ap (λ n. cond (nat_lt s.vacant_key n && nat_lt s.vacant_key (length cold)) s.capacity (slab_len s)) long,
    refl,
  )

  -- a write to a used slot changes no number of slots
  pub size_written : (key : ℕ) (hot : HotSlot) → ContainsKey s key
      → SameSize (whole s links cold) (whole (with_value s key hot) links' cold)
  size_written key hot used =
      let len = len-with_value s key hot used in (
        len_whole (with_value s key hot) links' cold ∙ len ∙ sym (len_whole s links cold),
        ap (cond (has_place links' cold s.vacant_key) s.capacity) len ∙ size_linked.1,
        refl,
      )

-- a write of one slot's parts
module _ (old new : Slab HotSlot) (links links' : List Link) (cold cold' : List ColdSlot) (key : ℕ)
    (slot : Option HotSlot) (updates : Updates old new key slot) where
  pub updates_whole : ((other : ℕ) → other ≢ key → link_of links' other ≡ link_of links other)
      → ((other : ℕ) → other ≢ key → cold_of cold' other ≡ cold_of cold other)
      → Updates (whole old links cold) (whole new links' cold') key (option_map (slot_at links' cold' key) slot)
  updates_whole link_apart cold_apart = record {
    changed = get_whole new links' cold' key ∙ ap (option_map (slot_at links' cold' key)) updates.changed;
    others = λ other d. get_whole new links' cold' other
        ∙ ap (option_map (slot_at links' cold' other)) (updates.others other d)
        ∙ ap (λ link. option_map (whole_slot link (cold_of cold' other)) (get old other)) (link_apart other d)
        ∙ ap (λ c. option_map (whole_slot (link_of links other) c) (get old other)) (cold_apart other d)
        ∙ sym (get_whole old links cold other);
  }

  -- no other key becomes used
  pub stored_after : IsStored old links cold → length links ≤ length links' → length cold ≤ length cold'
      → (IsSome slot → (key < length links') × (key < length cold')) → IsStored new links' cold'
  stored_after stored longer longer' place = record {
    linked = λ k is. grind (arith, cases_eq k key, updates.changed, updates.others k, stored.linked k, longer, place);
    begun = λ k is. grind (arith, cases_eq k key, updates.changed, updates.others k, stored.begun k, longer', place);
  }

-- what contracts see of a write to one slot
module _ (old new : Slab HotSlot) (links : List Link) (cold : List ColdSlot) (slots : Slab Slot)
    (view_is : whole old links cold ≡ slots) (key : ℕ) (hot : HotSlot) (updates : Updates old new key (Some hot)) where
  pub written : Updates slots (whole new links cold) key (Some (slot_at links cold key hot))
  written = rw (← view_is)
      (updates_whole old new links links cold cold key (Some hot) updates (λ other d. refl) (λ other d. refl))

  module _ (link : Link) (linked : key < length links) where
    kept_links : (other : ℕ) → other ≢ key → link_of (set links key link) other ≡ link_of links other
    kept_links other d = get_or-set_other links key other link unlinked d

    pub written_link : Updates slots (whole new (set links key link) cold) key
        (Some (whole_slot link (cold_of cold key) hot))
    written_link = rw (← view_is)
        (subst (λ l. Updates (whole old links cold) (whole new (set links key link) cold) key
        (Some (whole_slot l (cold_of cold key) hot)))
        (get_or-set_same links key link unlinked linked)
        (updates_whole old new links (set links key link) cold cold key (Some hot) updates kept_links
        (λ other d. refl)))

    pub written_whole : (origin : ColdSlot) → key < length cold
        → Updates slots (whole new (set links key link) (set cold key origin)) key (Some (whole_slot link origin hot))
    written_whole origin begun = rw (← view_is)
        (subst (λ l. Updates (whole old links cold) (whole new (set links key link) (set cold key origin)) key
        (Some (whole_slot l origin hot)))
        (get_or-set_same links key link unlinked linked)
        (subst (λ c. Updates (whole old links cold) (whole new (set links key link) (set cold key origin)) key
        (Some (whole_slot (link_of (set links key link) key) c hot)))
        (get_or-set_same cold key origin unused begun)
        (updates_whole old new links (set links key link) cold (set cold key origin) key (Some hot) updates kept_links
        (λ other d. get_or-set_other cold key other origin unused d))))

-- links, and the list that they are in, are written
pub placed : (old new : Slab Slot) (key : ℕ) (slot : Slot) (links : ListLinks) → get old key ≡ Some slot
    → Updates old new key (Some (record slot { links = links })) → Placed old new key links
placed old new key slot links is updates = record {
  link = λ heads. record {
    here = grind (arith, updates.changed);
    others = λ other d. grind (arith, updates.others (other - 5));
  };
  owner = ap owner_by updates.changed;
  others = λ other d. ap owner_by (updates.others other d);
  same = λ k. grind (arith, cases_eq k key, updates.changed, updates.others k, is);
}
