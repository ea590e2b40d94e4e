-- A conntrack table: slots that are numbered in the order of their creation, a queue for each timeout, and an index.
use Rattle.aged_tracker.specs.declared.aged_slots.AgedSlots.{AgedSlots}
use Rattle.aged_tracker.specs.declared.packed.PackedEndpoint.{PackedEndpoint}
use Rattle.aged_tracker.specs.declared.packed.PackedTuple.{PackedTuple}
use Rattle.aged_tracker.specs.declared.slot.Link.{Link}
use Rattle.aged_tracker.specs.declared.slot.ListLinks.{ListLinks}
use Rattle.aged_tracker.specs.declared.slot.Neighbour.{Neighbour}
use Rattle.aged_tracker.specs.declared.slot.Neighbour.TheVariants.{Next, Previous}
use Rattle.aged_tracker.specs.declared.slot.NodeIndex.{NodeIndex}
use Rattle.aged_tracker.specs.declared.slot.Slot.{Slot}
use Rattle.aged_tracker.specs.declared.tuple_index.TupleIndex.{TupleIndex}
use Rattle.aged_tracker.specs.steps.SlotLists.{unlinked}
use Rattle.box_file.specs.declared.idle_line.IdleKind.{IdleKind}
use Rattle.box_file.specs.declared.limits.Limits.{Limits}
use Rattle.conntrack.specs.ConntrackEntry.{belonging_by, connection_of, is_incoming, is_live}
use Rattle.conntrack.specs.TableEntries.{has_distinct_ids, have_disjoint_tuples, touched}
use Rattle.conntrack.specs.Phases.{idle_kind, limit_in, phase_by, phase_of}
use Rattle.conntrack.specs.declared.belonging.Belonging.{Belonging}
use Rattle.conntrack.specs.declared.belonging.Belonging.TheVariants.{NotFound}
use Rattle.conntrack.specs.declared.connection.Connection.{Connection}
use Rattle.conntrack.specs.declared.connection.ConntrackEntry.{ConntrackEntry}
use Rattle.ip_headers.specs.declared.tuple.Direction.{Direction}
use Rattle.ip_headers.specs.declared.tuple.Direction.TheVariants.{Original, Reply}
use Rattle.conntrack.specs.declared.connection.Flags.{Flags}
use Rattle.conntrack.specs.declared.connection.Phase.{Phase}
use Rattle.futures.specs.LinkedLists.{without}
use Rattle.ip_headers.specs.Same.{same_tuple}
use Rattle.ip_headers.specs.declared.tuple.Endpoint.{Endpoint}
use Rattle.ip_headers.specs.declared.tuple.Kind.{Kind}
use Rattle.ip_headers.specs.declared.tuple.Mapping.{Mapping}
use Rattle.ip_headers.specs.declared.tuple.Tuple.{Tuple}
use Rattle.slab.specs.Slab.{Slab, get, slab_len}
use Rattle.std.specs.HashMap.{spare}
use Rattle.std.specs.HashMap.{get as get_key}
use Rattle.std.specs.List.{find}
use Rattle.std.specs.List.Sorted.{IsNonDecreasingBy}
use Rattle.std.specs.Prelude.{Bool, IsSome, List, None, Option, Some, [], false, if◌then◌else◌, length, map, nat_lt, option_map, slice_get}
use Rattle.std.specs.Prelude.{slice_index_or, suc, true}
use Rattle.std.specs.Prelude.{zero, ℕ, ◌&&◌, ◌*◌, ◌++◌, ◌+◌, ◌-◌, ◌<◌, ◌==◌, ◌^◌, ◌∷◌, ◌≡◌, ◌≢◌, ◌≤◌}
use Rattle.box_file.specs.declared.idle_line.IdleKind.TheVariants as idle
use Rattle.futures.specs.Links as ring

-- ---- packed endpoints, tuples and mappings

abbrev pub endpoint_of : PackedEndpoint → Endpoint
endpoint_of endpoint = record { address = endpoint.high * 65536 + endpoint.low; port = endpoint.port }

abbrev pub tuple_of : PackedTuple → Tuple
tuple_of packed =
    record { kind = packed.kind; source = endpoint_of packed.first; destination = endpoint_of packed.second }

abbrev pub mapping_of : PackedTuple → Mapping
mapping_of packed =
    record { kind = packed.kind; internal = endpoint_of packed.first; external = endpoint_of packed.second }

-- ---- slots

abbrev pub with_link : Link → Slot → Slot
with_link link slot = record slot { links = record { list = slot.links.list; link = link } }

-- the entry in the slot of a key
abbrev pub held_of : ℕ → Slot → ConntrackEntry
held_of key slot = record {
  id = record { 0 = key };
  original = tuple_of slot.original;
  reply = tuple_of slot.reply;
  mark = slot.mark;
  last = slot.last;
  from_original = slot.from_original;
  from_reply = slot.from_reply;
  replied = slot.replied;
  source = option_map mapping_of slot.source;
  dest = option_map mapping_of slot.dest;
}

-- the entry in a slot, if there is one
abbrev pub held_at : Slab Slot → ℕ → Option ConntrackEntry
held_at slots key = option_map (held_of key) (get slots key)

abbrev pub cons_held : Option ConntrackEntry → List ConntrackEntry → List ConntrackEntry
cons_held None held = held
cons_held (Some h) held = h ∷ held

-- a slot updated for a touched entry, which keeps its tuples and mappings
abbrev pub updated : ConntrackEntry → Slot → Slot
updated h slot = record slot {
  last = h.last;
  mark = h.mark;
  from_original = h.from_original;
  from_reply = h.from_reply;
  replied = h.replied;
}

-- a slot after one more packet of its connection, whatever its key
abbrev pub touched_slot : Direction → Flags → ℕ → ℕ → Slot → Slot
touched_slot direction flags mark now slot = updated (touched direction flags mark now (held_of 0 slot)) slot

-- ---- nodes: heads and slots

-- how many keys slots may have, so that node indexes fit in 32 bits
abbrev pub MAX_KEYS : ℕ
MAX_KEYS = 4294967291

-- heads are numbered first, then slots
abbrev pub number : NodeIndex → ℕ
number at = at.0

-- a neighbour by these links
abbrev pub neighbour : Neighbour → Link → ℕ
neighbour Previous link = number link.prev
neighbour Next link = number link.next

-- links with one neighbour set
abbrev pub with_neighbour : Neighbour → NodeIndex → Link → Link
with_neighbour Previous to link = record link { prev = to }
with_neighbour Next to link = record link { next = to }

abbrev pub link_by : Option Slot → Link
link_by None = unlinked
link_by (Some slot) = slot.links.link

-- the links of a node
abbrev pub link_at : Slab Slot → List Link → ℕ → Link
link_at slots heads node =
    if nat_lt node 5 then slice_index_or heads node unlinked else link_by (get slots (node - 5))

abbrev pub next_of : Slab Slot → List Link → ℕ → ℕ
next_of slots heads node = neighbour Next (link_at slots heads node)

abbrev pub prev_of : Slab Slot → List Link → ℕ → ℕ
prev_of slots heads node = neighbour Previous (link_at slots heads node)

abbrev pub owner_by : Option Slot → Option ℕ
owner_by None = None
owner_by (Some slot) = slot.links.list

-- the list that a slot is in
abbrev pub owner_of : Slab Slot → ℕ → Option ℕ
owner_of slots key = owner_by (get slots key)

-- the node exists
abbrev pub IsNode : Slab Slot → ℕ → Type 0
IsNode slots node = 5 ≤ node → IsSome (get slots (node - 5))

-- the links of one node are set, and all others are unchanged
pub record Relinks (old new : ℕ → Link) (node : ℕ) (link : Link) : Type 0 where
  pub here : new node ≡ link
  pub others : (other : ℕ) → other ≢ node → new other ≡ old other

-- each slot is as it was, as far as this keeps of it
abbrev pub SameBy : (Slot → Slot) → Slab Slot → Slab Slot → Type 0
SameBy keep old new = (key : ℕ) → option_map keep (get new key) ≡ option_map keep (get old key)

-- a slot without its links
abbrev pub except_links : Slot → Slot
except_links slot = record slot { links = record { list = None; link = unlinked } }

-- what a write of links writes and keeps
pub record Placed (old new : Slab Slot) (key : ℕ) (links : ListLinks) : Type 0 where
  pub link : (heads : List Link) → Relinks (link_at old heads) (link_at new heads) (5 + key) links.link
  pub owner : owner_of new key ≡ links.list
  pub others : (other : ℕ) → other ≢ key → owner_of new other ≡ owner_of old other
  pub same : SameBy except_links old new

-- ---- lists: circular and doubly linked, through the slots of a slab, each with a head: the queues

-- the keys of each list
abbrev pub Lists : Type 0
Lists = ℕ → List ℕ

-- the circular list of a head has these keys, each once, in this order: all slots that belong to it
abbrev pub IsRing : Slab Slot → List Link → ℕ → List ℕ → Type 0
IsRing slots heads list keys =
    ring.IsRing (next_of slots heads) (prev_of slots heads) 5 (owner_of slots) list keys

abbrev pub IsRings : Slab Slot → List Link → Lists → Type 0
IsRings slots heads lists = (list : ℕ) → list < 5 → IsRing slots heads list (lists list)

abbrev pub HasRings : Slab Slot → List Link → Type 0
HasRings slots heads = (lists : Lists) × IsRings slots heads lists

-- the lists without a key
abbrev pub off : ℕ → Lists → Lists
off key lists list = without key (lists list)

-- the lists with a key at the end of one
abbrev pub pushed : ℕ → ℕ → Lists → Lists
pushed key to lists list = if list == to then lists list ++ key ∷ [] else lists list

-- a key is in one of the lists
abbrev pub IsOwned : Slab Slot → ℕ → Type 0
IsOwned slots key = (list : ℕ) × ((list < 5) × (owner_of slots key ≡ Some list))

-- the key is in this list now or in none, and the keys of the lists changed so
pub record Relists (old new : Slab Slot) (heads heads' : List Link) (key : ℕ) (to : Option ℕ)
    (change : Lists → Lists) : Type 0 where
  pub rings : (lists : Lists) → IsRings old heads lists → IsRings new heads' (change lists)
  pub here : owner_of new key ≡ to
  pub others : (other : ℕ) → other ≢ key → owner_of new other ≡ owner_of old other

-- slots
abbrev pub Slots : Type 0
Slots = Slab Slot

-- as many slots are used and reserved, and the same one is vacant next
abbrev pub SameSize : Slab Slot → Slab Slot → Type 0
SameSize old new =
    (slab_len new ≡ slab_len old) × (new.capacity ≡ old.capacity) × (new.vacant_key ≡ old.vacant_key)

-- ---- queues

-- a queue for each timeout
abbrev pub queue_number : IdleKind → ℕ
queue_number idle.Udp = 0
queue_number idle.Established = 1
queue_number idle.Transitory = 2
queue_number idle.Echo = 3
queue_number idle.Other = 4

-- the timeout of a queue's entries
abbrev pub idle_at : ℕ → IdleKind
idle_at q =
    if q == 0 then idle.Udp
    else (if q == 1 then idle.Established
    else (if q == 2 then idle.Transitory
    else (if q == 3 then idle.Echo
    else idle.Other)))

abbrev pub queue_by : Kind → Phase → ℕ
queue_by kind phase = queue_number (idle_kind kind phase)

abbrev pub queue_of : ConntrackEntry → ℕ
queue_of h = queue_by h.original.kind (phase_of h)

abbrev pub queue_in : Slot → ℕ
queue_in slot = queue_by slot.original.kind (phase_by slot.from_original slot.from_reply)

-- in nanoseconds
abbrev pub limit_at : Limits → ℕ → ℕ
limit_at limits q = limit_in limits (idle_at q)

-- ---- the moments of queues

abbrev pub last_by : Option ConntrackEntry → ℕ
last_by None = 0
last_by (Some h) = h.last

-- the moment of the last packet of the entry in a slot
abbrev pub last_at : (ℕ → Option ConntrackEntry) → ℕ → ℕ
last_at slots key = last_by (slots key)

-- the moments don't fall along the keys
abbrev pub IsRising : (ℕ → ℕ) → List ℕ → Type 0
IsRising f = IsNonDecreasingBy f

-- whether the key is the first of a list
abbrev pub is_first : ℕ → List ℕ → Bool
is_first key [] = false
is_first key (first ∷ rest) = first == key

-- the moment of each queue's front, unless that is this key
abbrev pub AreOldestBut : ℕ → (ℕ → ℕ) → Lists → List ℕ → Type 0
AreOldestBut key last lists moments =
    (q : ℕ) → q < 5 → (front : ℕ) → slice_get (lists q) 0 ≡ Some front → front ≢ key → slice_index_or moments q 0 ≡ last front

-- the moment of each queue's front
abbrev pub AreOldest : (ℕ → ℕ) → Lists → List ℕ → Type 0
AreOldest last lists moments =
    (q : ℕ) → q < 5 → (front : ℕ) → slice_get (lists q) 0 ≡ Some front → slice_index_or moments q 0 ≡ last front

-- ---- the order of creation

abbrev pub serial_by : Option Slot → ℕ
serial_by None = 0
serial_by (Some slot) = slot.serial

-- the number of a slot: entries are numbered as they are created
abbrev pub serial_at : Slab Slot → ℕ → ℕ
serial_at slots key = serial_by (get slots key)

-- the number of a slot, and its entry as it is listed
abbrev pub numbered_entry : ℕ × Slot → ℕ × Connection
numbered_entry entry = (entry.1.serial, connection_of (held_of entry.0 entry.1))

-- the entries of such pairs
abbrev pub connections_by : List (ℕ × Connection) → List Connection
connections_by = map (λ pair. pair.1)

-- entries are numbered apart, and below this
pub record IsNumbered (slots : Slab Slot) (next : ℕ) : Type 0 where
  pub apart : (j k : ℕ) → IsSome (held_at slots j) → IsSome (held_at slots k) → serial_at slots j ≡ serial_at slots k → j ≡ k
  pub below : (k : ℕ) → IsSome (held_at slots k) → serial_at slots k < next

abbrev pub picked : Bool → Option ConntrackEntry → Option ConntrackEntry → Option ConntrackEntry
picked true (Some h) rest = Some h
picked true None rest = rest
picked false o rest = rest

-- the entry with a number in the slots below a bound
abbrev pub entry_below : (ℕ → Option ConntrackEntry) → (ℕ → ℕ) → ℕ → ℕ → Option ConntrackEntry
entry_below slots serial n zero = None
entry_below slots serial n (suc key) = picked (serial key == n) (slots key) (entry_below slots serial n key)

abbrev pub entry_at : Slab Slot → ℕ → Option ConntrackEntry
entry_at slots n = entry_below (held_at slots) (serial_at slots) n (length slots.slots)

-- the entries with so many numbers from one on
abbrev pub held_from : (ℕ → Option ConntrackEntry) → ℕ → ℕ → List ConntrackEntry
held_from f first zero = []
held_from f first (suc count) = cons_held (f first) (held_from f (suc first) count)

-- ---- the table

-- the entry in a slot, if there is one
abbrev pub slots_of : AgedSlots → ℕ → Option ConntrackEntry
slots_of t = held_at t.slots

-- all entries in the order of their creation
abbrev pub held_by : AgedSlots → List ConntrackEntry
held_by t = held_from (entry_at t.slots) 0 t.next_serial

-- each slot is in its entry's queue, and each queue is sorted by last packets
pub record IsTable (t : AgedSlots) : Type 0 where
  pub rings : HasRings t.slots t.queues
  pub owners : (key : ℕ) → owner_of t.slots key ≡ option_map queue_of (slots_of t key)
  pub rising : (q : ℕ) → q < 5 → IsRising (last_at (slots_of t)) (rings.0 q)
  pub numbered : IsNumbered t.slots t.next_serial
  pub oldest : AreOldest (last_at (slots_of t)) rings.0 t.oldest
  pub few : (key : ℕ) → IsSome (slots_of t key) → key < MAX_KEYS

-- the greatest number
abbrev pub MAX_SERIAL : ℕ
MAX_SERIAL = 2 ^ 64 - 1

-- whether memory for one more is reserved, and a number is left
abbrev pub has_room : AgedSlots → Bool
has_room t =
    nat_lt (slab_len t.slots) t.slots.capacity
    && (nat_lt t.slots.vacant_key MAX_KEYS && nat_lt t.next_serial MAX_SERIAL)

-- one slot's entry is set, and all others are unchanged
pub record Sets (old new : ℕ → Option ConntrackEntry) (key : ℕ) (slot : Option ConntrackEntry) : Type 0 where
  pub changed : new key ≡ slot
  pub others : (other : ℕ) → other ≢ key → new other ≡ old other

-- every entry of the queue is live
abbrev pub IsLiveQueue : Limits → (ℕ → Option ConntrackEntry) → ℕ → ℕ → Type 0
IsLiveQueue limits slots now q =
    (key : ℕ) (h : ConntrackEntry) → slots key ≡ Some h → queue_of h ≡ q → is_live limits now h ≡ true

abbrev pub IsAllLive : Limits → (ℕ → Option ConntrackEntry) → ℕ → Type 0
IsAllLive limits slots now =
    (key : ℕ) (h : ConntrackEntry) → slots key ≡ Some h → is_live limits now h ≡ true

-- all entries are live until a moment, and at it
abbrev pub AreLiveUntil : Limits → (ℕ → Option ConntrackEntry) → ℕ → Type 0
AreLiveUntil limits slots until = (now : ℕ) → now ≤ until → IsAllLive limits slots now

-- ---- the index from incoming tuples to slots

abbrev pub slot_in : TupleIndex → Tuple → Option ℕ
slot_in index = get_key same_tuple index.slots

-- how many more tuples memory is reserved for
abbrev pub room_in : TupleIndex → ℕ
room_in index = spare index.slots

-- the key of the first entry with an incoming tuple
abbrev pub key_in : Tuple → List ConntrackEntry → Option ℕ
key_in tuple held = option_map (λ (h : ConntrackEntry). h.id.0) (find (is_incoming tuple) held)

-- the index has the key of each incoming tuple, and ids and tuples differ
pub record IsIndexed (held : List ConntrackEntry) (at : Tuple → Option ℕ) (live : ℕ) : Type 0 where
  pub keyed : (tuple : Tuple) → at tuple ≡ key_in tuple held
  pub distinct : has_distinct_ids held ≡ true
  pub apart : have_disjoint_tuples held ≡ true
  pub count : live ≡ length held

pub record IsConsistent (slots : AgedSlots) (at : Tuple → Option ℕ) (live : ℕ) (limits : Limits) (until looked_at : ℕ) : Type 0 where
  pub table : IsTable slots
  pub indexed : IsIndexed (held_by slots) at live
  pub lasting : AreLiveUntil limits (slots_of slots) until
  pub soon : until < looked_at + 1000000000

-- the direction of a packet, if its tuple is an incoming tuple of the entry
abbrev pub direction_in : Tuple → ConntrackEntry → Option Direction
direction_in tuple h =
    if same_tuple h.original tuple then Some Original
    else (if same_tuple h.reply tuple then Some Reply else None)

abbrev pub belonging_as : Flags → ConntrackEntry → Direction → Belonging
belonging_as flags h Original = belonging_by flags (Some h) None
belonging_as flags h Reply = belonging_by flags None (Some h)

-- the lookup result of a packet of the entry, by its direction
abbrev pub belonging_in : Limits → ℕ → Flags → ConntrackEntry → Direction → Belonging
belonging_in limits now flags h direction =
    if is_live limits now h then belonging_as flags h direction else NotFound

-- the lookup result of a packet, if its tuple is an incoming tuple of the entry in a slot
abbrev pub belonging_at : Limits → ℕ → Tuple → Flags → Option ConntrackEntry → Option Belonging
belonging_at limits now tuple flags None = None
belonging_at limits now tuple flags (Some h) =
    option_map (belonging_in limits now flags h) (direction_in tuple h)
