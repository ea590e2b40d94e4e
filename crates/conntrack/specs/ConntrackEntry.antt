-- The conntrack entries that a table holds, as a list in the order of their creation, and lookups in it.
-- Where a comment says so, a rule is this project's own (own).
use Rattle.std.specs.Prelude.{◌-◌, ℕ, Bool, true, false, not, ◌&&◌, ◌||◌, ◌==◌, nat_lt}
use Rattle.std.specs.Prelude.{if◌then◌else◌, List, filter, Option, Some, None}
use Rattle.std.specs.List.{find, list_any}
use Rattle.ip_headers.specs.declared.tuple.Kind.{Kind}
use Rattle.ip_headers.specs.declared.tuple.Kind.TheVariants.{EchoReply}
use Rattle.ip_headers.specs.declared.tuple.Tuple.{Tuple}
use Rattle.conntrack.specs.declared.connection.ConnId.{ConnId}
use Rattle.conntrack.specs.declared.connection.Connection.{Connection}
use Rattle.ip_headers.specs.declared.tuple.Direction.{Direction}
use Rattle.ip_headers.specs.declared.tuple.Direction.TheVariants.{Original, Reply}
use Rattle.conntrack.specs.declared.connection.Flags.{Flags}
use Rattle.conntrack.specs.declared.connection.ConntrackEntry.{ConntrackEntry}
use Rattle.box_file.specs.declared.limits.Limits.{Limits}
use Rattle.conntrack.specs.declared.belonging.Belonging.{Belonging}
use Rattle.conntrack.specs.declared.belonging.Belonging.TheVariants.{NotFound, Ends, Found}
use Rattle.conntrack.specs.declared.belonging.ConnectionRef.{ConnectionRef}
use Rattle.ip_headers.specs.Same.{same_tuple}
use Rattle.conntrack.specs.Phases.{is_lone_syn, is_closing, phase_of, limit_by}

-- ---- directions (netfilter's IP_CT_DIR_ORIGINAL and IP_CT_DIR_REPLY)

abbrev pub is_original : Direction → Bool
is_original Original = true
is_original Reply = false

abbrev pub is_reply : Direction → Bool
is_reply Original = false
is_reply Reply = true

-- ---- an entry (own)

-- its timeout in nanoseconds: it is live for so long after its last packet
abbrev pub limit_of : Limits → ConntrackEntry → ℕ
limit_of limits h = limit_by limits h.original.kind (phase_of h)

-- live while less than its timeout has passed since its last packet (own: at the timeout it is expired)
abbrev pub is_live : Limits → ℕ → ConntrackEntry → Bool
is_live limits now h = nat_lt (now - h.last) (limit_of limits h)

-- as it is listed
abbrev pub connection_of : ConntrackEntry → Connection
connection_of h = record {
  original = h.original;
  reply = h.reply;
  mark = h.mark;
  last = h.last;
  source = h.source;
  dest = h.dest;
}

-- an entry with its id erased: ids are chosen by the table and don't matter
abbrev pub without_id : ConntrackEntry → ConntrackEntry
without_id h = record {
  id = record { 0 = 0 };
  original = h.original;
  reply = h.reply;
  mark = h.mark;
  last = h.last;
  from_original = h.from_original;
  from_reply = h.from_reply;
  replied = h.replied;
  source = h.source;
  dest = h.dest;
}

-- ---- the entries of a table (own)

abbrev pub same_id : ConnId → ConntrackEntry → Bool
same_id id h = h.id.0 == id.0

abbrev pub is_incoming : Tuple → ConntrackEntry → Bool
is_incoming tuple h = same_tuple h.original tuple || same_tuple h.reply tuple

-- whether a tuple is an incoming tuple of an entry
abbrev pub is_taken : Tuple → List ConntrackEntry → Bool
is_taken tuple held = list_any (is_incoming tuple) held

abbrev pub without : ConnId → List ConntrackEntry → List ConntrackEntry
without id held = filter (λ h. not (same_id id h)) held

-- the most entries that a table holds (own; netfilter's nf_conntrack_max)
abbrev pub max_connections : ℕ
max_connections = 1048576

-- ---- lookup (own)

abbrev pub connection_ref : ConntrackEntry → Direction → ConnectionRef
connection_ref h direction = record {
  id = h.id;
  direction = direction;
  original = h.original;
  reply = h.reply;
  mark = h.mark;
  replied = h.replied;
}

abbrev pub of_original : List ConntrackEntry → Tuple → Option ConntrackEntry
of_original held tuple = find (λ h. same_tuple h.original tuple) held

abbrev pub of_reply : List ConntrackEntry → Tuple → Option ConntrackEntry
of_reply held tuple = find (λ h. same_tuple h.reply tuple) held

-- the entry whose original tuple it is, else the one whose reply tuple it is. A SYN in direction original on
-- a closing TCP connection finds none: that entry is removed and recreated (own; netfilter does so too)
abbrev pub belonging_by : Flags → Option ConntrackEntry → Option ConntrackEntry → Belonging
belonging_by flags (Some h) other =
    if is_lone_syn flags && is_closing h then Ends h.id else Found (connection_ref h Original)
belonging_by flags None (Some h) = Found (connection_ref h Reply)
belonging_by flags None None = NotFound

-- looks up a packet with this tuple and these flags among the entries
abbrev pub belongs_in : List ConntrackEntry → Tuple → Flags → Belonging
belongs_in held tuple flags = belonging_by flags (of_original held tuple) (of_reply held tuple)

-- whether a packet of this kind that finds none begins a connection: an unsolicited echo reply doesn't (own)
abbrev pub may_begin : Kind → Bool
may_begin EchoReply = false
may_begin _ = true
