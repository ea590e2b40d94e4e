-- The history of all records as far as connection tracking is concerned, newest first, and what it says
-- about connections (own). Nothing is ever removed from it.
use Rattle.std.specs.Prelude.{◌≤◌, ℕ, Bool, true, false, not, ◌&&◌, ◌||◌, ◌==◌, if◌then◌else◌, List}
use Rattle.std.specs.Prelude.{[], ◌∷◌, ◌++◌, map, filter, length, Option, Some, None}
use Rattle.std.specs.List.{list_any}
use Rattle.ip_headers.specs.declared.tuple.Mapping.{Mapping}
use Rattle.ip_headers.specs.declared.tuple.Tuple.{Tuple}
use Rattle.conntrack.specs.Tuples.{no_tuple}
use Rattle.ip_headers.specs.declared.tuple.Direction.{Direction}
use Rattle.ip_headers.specs.declared.tuple.Direction.TheVariants.{Original}
use Rattle.conntrack.specs.declared.connection.Flags.{Flags}
use Rattle.conntrack.specs.declared.connection.ConntrackEntry.{ConntrackEntry}
use Rattle.conntrack.specs.declared.connection.Phase.{Phase}
use Rattle.box_file.specs.declared.limits.Limits.{Limits}
use Rattle.conntrack.specs.declared.belonging.Belonging.{Belonging}
use Rattle.conntrack.specs.Phases.{phase_by}
use Rattle.conntrack.specs.ConntrackEntry.{is_original, is_reply, is_live, belongs_in}
use Rattle.conntrack.specs.TableEntries.{live_at, SameExceptIds}

-- ---- what is recorded of a packet

-- what a connection is created with: the tuples of its incoming packets in both directions, and the mappings
-- of its source and destination
pub record Creation : Type 0 where
  pub original : Tuple
  pub reply : Tuple
  pub source : Option Mapping
  pub dest : Option Mapping

-- what a packet did to connections. A connection is identified by the number of the record that created it;
-- the oldest record has number 0. A dropped packet does nothing, and neither does one without a tuple
pub data ConnectionChange : Type 0 where
  NoChange : ConnectionChange
  Begins : Creation → ConnectionChange
  Touches : (connection : ℕ) (direction : Direction) → ConnectionChange

pub record TrackedPacket : Type 0 where
  pub moment : ℕ
  pub flags : Flags
  -- the mark that it set on its connection
  pub mark : ℕ
  pub change : ConnectionChange
  -- the closing connection that it removed, even if it was dropped itself
  pub ended : Option ℕ

-- whether a connection is created
abbrev pub is_creation : ConnectionChange → Bool
is_creation (Begins creation) = true
is_creation _ = false

-- ---- one connection: its records are the one that created it and those that touched it

abbrev pub is_touch_of : ℕ → ConnectionChange → Bool
is_touch_of c (Touches k direction) = c == k
is_touch_of c _ = false

-- its records, newest first
abbrev pub entries_of : ℕ → List TrackedPacket → List TrackedPacket
entries_of c [] = []
entries_of c (e ∷ history) =
    if length history == c then e ∷ []
    else (if is_touch_of c e.change then e ∷ entries_of c history
    else entries_of c history)

abbrev pub is_that : ℕ → Option ℕ → Bool
is_that c None = false
is_that c (Some k) = c == k

-- whether a record after its first one removed it
abbrev pub is_ended : ℕ → List TrackedPacket → Bool
is_ended c [] = false
is_ended c (e ∷ history) = if length history == c then false else (is_that c e.ended || is_ended c history)

-- a default for records that created no connection; no definition depends on it
abbrev pub no_creation : Creation
no_creation = record { original = no_tuple; reply = no_tuple; source = None; dest = None }

-- what a record created
abbrev pub creation_in : ConnectionChange → Creation
creation_in (Begins creation) = creation
creation_in _ = no_creation

-- what connection c was created with, by its first record
abbrev pub creation_of : ℕ → List TrackedPacket → Creation
creation_of c [] = no_creation
creation_of c (e ∷ history) = if length history == c then creation_in e.change else creation_of c history

-- whether the packet's direction is a wanted one; the first packet of a connection goes in direction
-- original
abbrev pub has_direction : (Direction → Bool) → ConnectionChange → Bool
has_direction wanted NoChange = false
has_direction wanted (Begins creation) = wanted Original
has_direction wanted (Touches k direction) = wanted direction

-- the flags seen in a direction
abbrev pub flags_seen : (Direction → Bool) → List TrackedPacket → Flags
flags_seen wanted entries = record {
  syn = list_any (λ e. has_direction wanted e.change && e.flags.syn) entries;
  ack = list_any (λ e. has_direction wanted e.change && e.flags.ack) entries;
  fin = list_any (λ e. has_direction wanted e.change && e.flags.fin) entries;
  rst = list_any (λ e. has_direction wanted e.change && e.flags.rst) entries;
}

-- whether a reply has been seen
abbrev pub has_reply : List TrackedPacket → Bool
has_reply entries = list_any (λ e. has_direction is_reply e.change) entries

abbrev pub moment_of : List TrackedPacket → ℕ
moment_of [] = 0
moment_of (e ∷ entries) = e.moment

abbrev pub mark_of : List TrackedPacket → ℕ
mark_of [] = 0
mark_of (e ∷ entries) = e.mark

-- the entry of a connection, computed from its creation and its records
abbrev pub replayed : ℕ → Creation → List TrackedPacket → ConntrackEntry
replayed c creation entries = record {
  id = record { 0 = c };
  original = creation.original;
  reply = creation.reply;
  mark = mark_of entries;
  last = moment_of entries;
  from_original = flags_seen is_original entries;
  from_reply = flags_seen is_reply entries;
  replied = has_reply entries;
  source = creation.source;
  dest = creation.dest;
}

abbrev pub connection_in : ℕ → List TrackedPacket → ConntrackEntry
connection_in c history = replayed c (creation_of c history) (entries_of c history)

-- the phase of connection c
abbrev pub phase : ℕ → List TrackedPacket → Phase
phase c history =
    phase_by (flags_seen is_original (entries_of c history)) (flags_seen is_reply (entries_of c history))

-- no record removed it, and less than its timeout has passed since its last packet
abbrev pub is_alive : Limits → ℕ → List TrackedPacket → ℕ → Bool
is_alive limits c history now = not (is_ended c history) && is_live limits now (connection_in c history)

-- ---- all connections

abbrev pub number_if_begins : ℕ → ConnectionChange → List ℕ
number_if_begins n (Begins creation) = n ∷ []
number_if_begins n _ = []

-- all connections ever created, in the order of their creation
abbrev pub begun_in : List TrackedPacket → List ℕ
begun_in [] = []
begun_in (e ∷ history) = begun_in history ++ number_if_begins (length history) e.change

-- the connections that are alive at a moment, in the order of their creation
abbrev pub live_list : Limits → List TrackedPacket → ℕ → List ConntrackEntry
live_list limits history now =
    map (λ c. connection_in c history) (filter (λ c. is_alive limits c history now) (begun_in history))

-- looks up a packet with this tuple and these flags among the connections alive at a moment
abbrev pub belongs : Limits → List TrackedPacket → ℕ → Tuple → Flags → Belonging
belongs limits history now tuple flags = belongs_in (live_list limits history now) tuple flags

-- a table represents a history at a moment, that of its last record or a later one: its live entries are the
-- connections that are alive, in order, whatever their ids
pub record RepresentsAt (limits : Limits) (held : List ConntrackEntry) (history : List TrackedPacket)
    (now : ℕ) : Type 0 where
  pub reached : moment_of history ≤ now
  pub live : SameExceptIds (live_at limits now held) (live_list limits history now)
