-- How slots are stored: by key in three lists, of what each packet uses, of links, and of what only a connection's
-- beginning and end use.
use Rattle.aged_tracker.specs.declared.packed.PackedTuple.{PackedTuple}
use Rattle.aged_tracker.specs.declared.slot.ColdSlot.{ColdSlot}
use Rattle.aged_tracker.specs.declared.slot.HotSlot.{HotSlot}
use Rattle.aged_tracker.specs.declared.slot.Link.{Link}
use Rattle.aged_tracker.specs.declared.slot.Slot.{Slot}
use Rattle.ip_headers.specs.Tuple.{inverse_kind}
use Rattle.slab.specs.Slab.{ContainsKey, Slab, slab_len}
use Rattle.std.specs.Prelude.{Bool, List, None, Option, [], cond, length, nat_lt, option_map, slice_index_or, ℕ, ◌&&◌}
use Rattle.std.specs.Prelude.{◌+◌, ◌<◌, ◌∷◌}

module _ {A B : Type 0} (f : ℕ → A → B) where
  -- what slots from a key on have, changed by a function that is given the key too
  abbrev pub map_slots : ℕ → List (Option A) → List (Option B)
  map_slots key [] = []
  map_slots key (slot ∷ rest) = option_map (f key) slot ∷ map_slots (key + 1) rest

-- the packed tuple of packets in the other direction
abbrev pub inverse_packed : PackedTuple → PackedTuple
inverse_packed t = record { kind = inverse_kind t.kind; first = t.second; second = t.first }

-- the incoming tuple in direction reply, which is stored of a translated connection alone
abbrev pub reply_of : HotSlot → PackedTuple
reply_of hot = cond hot.is_translated hot.reply (inverse_packed hot.original)

-- what is stored for an unused key: both neighbours are the first head
abbrev pub unlinked : Link
unlinked = record { prev = record { 0 = 0 }; next = record { 0 = 0 } }

abbrev pub unused : ColdSlot
unused = record { source = None; dest = None; serial = 0 }

-- what is stored for a key
abbrev pub link_of : List Link → ℕ → Link
link_of links key = slice_index_or links key unlinked

abbrev pub cold_of : List ColdSlot → ℕ → ColdSlot
cold_of cold key = slice_index_or cold key unused

-- a slot put together
abbrev pub whole_slot : Link → ColdSlot → HotSlot → Slot
whole_slot link cold hot = record {
  last = hot.last;
  mark = hot.mark;
  links = record { list = hot.list; link = link };
  from_original = hot.from_original;
  from_reply = hot.from_reply;
  replied = hot.replied;
  original = hot.original;
  reply = reply_of hot;
  source = cold.source;
  dest = cold.dest;
  serial = cold.serial;
}

-- the slot of a key, put together
abbrev pub slot_at : List Link → List ColdSlot → ℕ → HotSlot → Slot
slot_at links cold key = whole_slot (link_of links key) (cold_of cold key)

-- whether all lists have a place for a key
abbrev pub has_place : List Link → List ColdSlot → ℕ → Bool
has_place links cold key = nat_lt key (length links) && nat_lt key (length cold)

-- the slots put together; there is room for one more only where all lists have a place for the next key
abbrev pub whole : Slab HotSlot → List Link → List ColdSlot → Slab Slot
whole hot links cold = record {
  slots = map_slots (slot_at links cold) 0 hot.slots;
  vacant_key = hot.vacant_key;
  capacity = cond (has_place links cold hot.vacant_key) hot.capacity (slab_len hot);
}

-- all lists have a place for each used key
pub record IsStored (hot : Slab HotSlot) (links : List Link) (cold : List ColdSlot) : Type 0 where
  pub linked : (key : ℕ) → ContainsKey hot key → key < length links
  pub begun : (key : ℕ) → ContainsKey hot key → key < length cold
