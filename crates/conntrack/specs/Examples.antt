-- The histories of the examples. A is 192.168.1.10, B is 198.51.100.7.
use Rattle.std.specs.Prelude.{ℕ, Bool, List, [], ◌∷◌, map, Option, Some, None, refl}
use Rattle.ip_headers.specs.declared.tuple.Kind.{Kind}
use Rattle.ip_headers.specs.declared.tuple.Kind.TheVariants.{Tcp, Udp}
use Rattle.ip_headers.specs.declared.tuple.Tuple.{Tuple}
use Rattle.ip_headers.specs.Tuple.{inverse}
use Rattle.ip_headers.specs.declared.tuple.Direction.{Direction}
use Rattle.ip_headers.specs.declared.tuple.Direction.TheVariants.{Original, Reply}
use Rattle.conntrack.specs.declared.connection.Flags.{Flags}
use Rattle.box_file.specs.declared.limits.Limits.{Limits}
use Rattle.conntrack.specs.declared.belonging.Belonging.{Belonging}
use Rattle.conntrack.specs.declared.belonging.Belonging.TheVariants.{Found}
use Rattle.conntrack.specs.Phases.{flags_of, no_flags, seconds}
use Rattle.box_file.specs.Idle.{usual_limits}
use Rattle.conntrack.specs.Histories.{TrackedPacket, ConnectionChange, NoChange, Begins, Touches, live_list}

-- ---- tuples

abbrev pub from_a : Kind → ℕ → ℕ → Tuple
from_a kind from to = record {
  kind = kind;
  source = record { address = 3232235786; port = from };
  destination = record { address = 3325256711; port = to };
}

-- from A, port 5000, to B, port 80 or 53
abbrev pub web : Tuple
web = from_a Tcp 5000 80

abbrev pub dns_query : Tuple
dns_query = from_a Udp 5000 53

-- ---- flags

abbrev pub syn : Flags
syn = flags_of 2

abbrev pub syn_ack : Flags
syn_ack = flags_of 18

abbrev pub plain_ack : Flags
plain_ack = flags_of 16

abbrev pub fin_ack : Flags
fin_ack = flags_of 17

abbrev pub rst_ack : Flags
rst_ack = flags_of 20

-- ---- records, with mark 0

abbrev pub entry : ℕ → Flags → ConnectionChange → TrackedPacket
entry moment flags change =
    record { moment = moment; flags = flags; mark = 0; change = change; ended = None }

-- a connection without translation
abbrev pub untranslated : Tuple → Tuple → ConnectionChange
untranslated original reply =
    Begins (record { original = original; reply = reply; source = None; dest = None })

abbrev pub begins : Tuple → ℕ → Flags → TrackedPacket
begins tuple moment flags = entry moment flags (untranslated tuple (inverse tuple))

abbrev pub sends : Direction → ℕ → Flags → TrackedPacket
sends direction moment flags = entry moment flags (Touches 0 direction)

abbrev pub is_dropped : ℕ → Flags → TrackedPacket
is_dropped moment flags = entry moment flags NoChange

-- the packet removes the first connection and creates another
abbrev pub begins_anew : Tuple → ℕ → TrackedPacket
begins_anew tuple moment = record (begins tuple moment syn) { ended = Some 0 }

-- a connection whose reply tuple is its original tuple
abbrev pub begins_as_hairpin : Tuple → TrackedPacket
begins_as_hairpin tuple = entry 0 no_flags (untranslated tuple tuple)

-- ---- histories, newest first

-- A sends SYN at 0 s
abbrev pub opening : List TrackedPacket
opening = begins web 0 syn ∷ []

-- B sends SYN at 1 s
abbrev pub crossed : List TrackedPacket
crossed = sends Reply (seconds 1) syn ∷ opening

-- each sends SYN+ACK, at 2 s and 3 s
abbrev pub opened : List TrackedPacket
opened = sends Reply (seconds 3) syn_ack ∷ sends Original (seconds 2) syn_ack ∷ crossed

-- B resets at 1 s
abbrev pub refused : List TrackedPacket
refused = sends Reply (seconds 1) rst_ack ∷ opening

-- A sends a UDP datagram at 0 s
abbrev pub queried : List TrackedPacket
queried = begins dns_query 0 no_flags ∷ []

-- ---- results

-- the numbers of the connections alive
abbrev pub alive_by : Limits → ℕ → List TrackedPacket → List ℕ
alive_by limits now history = map (λ h. h.id.0) (live_list limits history now)

-- the direction of a packet that belongs to a connection, and whether a reply was seen before it
abbrev pub found_as : Belonging → Option (Direction × Bool)
found_as (Found found) = Some (found.direction, found.replied)
found_as _ = None

-- with the default timeouts
abbrev pub alive_at : ℕ → List TrackedPacket → List ℕ
alive_at = alive_by usual_limits

-- timeouts that differ for all kinds and phases
abbrev pub short_limits : Limits
short_limits = record { established = 5; transitory = 4; udp = 3; echo = 2; other = 1; positive = refl }
