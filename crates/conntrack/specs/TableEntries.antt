-- How a table changes the entries that it holds, and what its contracts compare of them (own).
use Rattle.std.specs.Prelude.{◌≡◌, ◌≤◌, ◌+◌, ℕ, Bool, true, false, not, ◌&&◌, ◌||◌}
use Rattle.std.specs.Prelude.{if◌then◌else◌, List, [], ◌∷◌, map, filter, Option, Some, None}
use Rattle.std.specs.List.{find, list_any}
use Rattle.std.specs.Option.{option_map}
use Rattle.conntrack.specs.declared.connection.Aged.{Aged}
use Rattle.conntrack.specs.declared.connection.ConnId.{ConnId}
use Rattle.conntrack.specs.declared.connection.Connection.{Connection}
use Rattle.ip_headers.specs.declared.tuple.Direction.{Direction}
use Rattle.conntrack.specs.declared.connection.Flags.{Flags}
use Rattle.conntrack.specs.declared.connection.ConntrackEntry.{ConntrackEntry}
use Rattle.box_file.specs.declared.limits.Limits.{Limits}
use Rattle.conntrack.specs.declared.belonging.Belonging.{Belonging}
use Rattle.conntrack.specs.declared.belonging.Belonging.TheVariants.{NotFound, Ends, Found}
use Rattle.conntrack.specs.declared.belonging.ConnectionRef.{ConnectionRef}
use Rattle.conntrack.specs.Phases.{no_flags, seen_more}
use Rattle.conntrack.specs.ConntrackEntry.{is_live, is_original, is_reply, is_taken, same_id, without_id}

-- a new entry, after its first packet
abbrev pub begun_with : ConnId → Connection → Flags → ConntrackEntry
begun_with id connection flags = record {
  id = id;
  original = connection.original;
  reply = connection.reply;
  mark = connection.mark;
  last = connection.last;
  from_original = flags;
  from_reply = no_flags;
  replied = false;
  source = connection.source;
  dest = connection.dest;
}

-- an entry after one more packet, which sets this mark
abbrev pub touched : Direction → Flags → ℕ → ℕ → ConntrackEntry → ConntrackEntry
touched direction flags mark now h = record {
  id = h.id;
  original = h.original;
  reply = h.reply;
  mark = mark;
  last = now;
  from_original = seen_more (is_original direction) flags h.from_original;
  from_reply = seen_more (is_reply direction) flags h.from_reply;
  replied = is_reply direction || h.replied;
  source = h.source;
  dest = h.dest;
}

-- what is handed over of a removed entry
abbrev pub aged_of : ConntrackEntry → Aged
aged_of h = record { id = h.id; source = h.source; dest = h.dest }

abbrev pub live_at : Limits → ℕ → List ConntrackEntry → List ConntrackEntry
live_at limits now held = filter (is_live limits now) held

-- the same entries in the same order, whatever their ids
abbrev pub SameExceptIds : List ConntrackEntry → List ConntrackEntry → Type 0
SameExceptIds held others = map without_id held ≡ map without_id others

-- no entry had a packet after this moment
abbrev pub IsNoneLater : ℕ → List ConntrackEntry → Type 0
IsNoneLater now [] = Unit {0}
IsNoneLater now (h ∷ held) = (h.last ≤ now) × IsNoneLater now held

abbrev pub has_id : ConnId → List ConntrackEntry → Bool
has_id id held = list_any (same_id id) held

-- no two entries have the same id
abbrev pub has_distinct_ids : List ConntrackEntry → Bool
has_distinct_ids [] = true
has_distinct_ids (h ∷ held) = not (has_id h.id held) && has_distinct_ids held

-- no two entries have an incoming tuple in common; the two tuples of one entry may be equal
abbrev pub have_disjoint_tuples : List ConntrackEntry → Bool
have_disjoint_tuples [] = true
have_disjoint_tuples (h ∷ held) =
    not (is_taken h.original held || is_taken h.reply held) && have_disjoint_tuples held

abbrev pub touched_at : ConnId → Direction → Flags → ℕ → ℕ → List ConntrackEntry → List ConntrackEntry
touched_at id direction flags mark now held =
    map (λ h. if same_id id h then touched direction flags mark now h else h) held

-- what is handed over of the entry with this id
abbrev pub removed_entry : ConnId → List ConntrackEntry → Option Aged
removed_entry id held = option_map aged_of (find (same_id id) held)

abbrev pub ref_without_id : ConnectionRef → ConnectionRef
ref_without_id p = record {
  id = record { 0 = 0 };
  direction = p.direction;
  original = p.original;
  reply = p.reply;
  mark = p.mark;
  replied = p.replied;
}

abbrev pub belonging_without_id : Belonging → Belonging
belonging_without_id NotFound = NotFound
belonging_without_id (Ends id) = Ends (record { 0 = 0 })
belonging_without_id (Found found) = Found (ref_without_id found)

-- how many slots each call of a table visits at most
pub record SlotBounds : Type 0 where
  pub look : ℕ
  pub touch : ℕ
  pub begin : ℕ
  pub end : ℕ
  pub age : ℕ

-- a count doesn't fall, and rises by this bound at most, if there is one
abbrev pub IsWithin : Option ℕ → ℕ → ℕ → Type 0
IsWithin None old new = old ≤ new
IsWithin (Some n) old new = (old ≤ new) × (new ≤ old + n)
