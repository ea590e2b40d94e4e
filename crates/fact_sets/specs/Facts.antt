-- Facts as bits: where each field of facts stands among the bits of a packet of a set, and the facts that the
-- bits of any packet write. (own: the order of the fields and their codes)
use Rattle.std.specs.Prelude.{ℕ, ◌==◌, Bool, cond, List, Some, None}
use Rattle.std.specs.Prelude.{slice_index_or, if◌then◌else◌}
use Rattle.packet_sets.specs.declared.fields.Field.{Field}
use Rattle.packet_sets.specs.Sets.{field_value}
use Rattle.ip_headers.specs.declared.transport.Transport.{Transport}
use Rattle.ip_headers.specs.declared.transport.Transport.TheVariants.{Tcp, Udp, Icmp, Other}
use Rattle.rule_meaning.specs.declared.facts.Facts.{Facts}
use Rattle.rule_meaning.specs.declared.facts.Interface.{Interface}
use Rattle.rule_meaning.specs.declared.facts.CtFacts.{CtFacts}
use Rattle.rule_meaning.specs.declared.facts.CtFacts.TheVariants as ct
use Rattle.rule_meaning.specs.declared.facts.CtState.{CtState}
use Rattle.rule_meaning.specs.declared.facts.CtState.TheVariants as states
use Rattle.ip_headers.specs.declared.tuple.Direction.TheVariants as directions
use Rattle.fact_sets.specs.declared.fact_field.FactField.{FactField}
use Rattle.fact_sets.specs.declared.fact_field.FactField.TheVariants as fields
use Rattle.fact_sets.specs.declared.written.MarkSource.{MarkSource}
use Rattle.fact_sets.specs.declared.written.MarkSource.TheVariants as sources
use Rattle.fact_sets.specs.declared.written.Written.{Written}

-- ---- fields

abbrev pub PROTOCOL : Field
PROTOCOL = record { first = 0; width = 8 }

-- 1 for TCP, 2 for UDP, 3 for ICMP
abbrev pub TRANSPORT : Field
TRANSPORT = record { first = 8; width = 2 }

-- the number of an interface among those of the box
abbrev pub INPUT : Field
INPUT = record { first = 10; width = 6 }

-- whether there is an output interface
abbrev pub HAS_OUTPUT : ℕ
HAS_OUTPUT = 16

abbrev pub OUTPUT : Field
OUTPUT = record { first = 17; width = 6 }

-- 0 before the lookup, 1 where there will be none, 2 for untracked, 3 for invalid, 4 for established, 5 for
-- related, 6 and 7 for new
abbrev pub TRACKING : Field
TRACKING = record { first = 23; width = 3 }

-- 1 for a packet in reply direction
abbrev pub DIRECTION : Field
DIRECTION = record { first = 26; width = 1 }

-- the destination is translated, the source is, a reply was seen
abbrev pub STATUS : Field
STATUS = record { first = 27; width = 3 }

abbrev pub DESTINATION : Field
DESTINATION = record { first = 30; width = 32 }

abbrev pub SOURCE : Field
SOURCE = record { first = 62; width = 32 }

abbrev pub DESTINATION_PORT : Field
DESTINATION_PORT = record { first = 94; width = 16 }

abbrev pub SOURCE_PORT : Field
SOURCE_PORT = record { first = 110; width = 16 }

abbrev pub FLAGS : Field
FLAGS = record { first = 126; width = 8 }

abbrev pub ICMP_TYPE : Field
ICMP_TYPE = record { first = 134; width = 8 }

abbrev pub LENGTH : Field
LENGTH = record { first = 142; width = 16 }

abbrev pub TTL : Field
TTL = record { first = 158; width = 8 }

abbrev pub MARK : Field
MARK = record { first = 166; width = 32 }

abbrev pub CT_MARK : Field
CT_MARK = record { first = 198; width = 32 }

-- the place of each field; protocol and transport are one, and so are the two of the output interface
abbrev pub place_of : FactField → Field
place_of fields.Protocol = record { first = 0; width = 10 }
place_of fields.Input = INPUT
place_of fields.Output = record { first = 16; width = 7 }
place_of fields.Tracking = TRACKING
place_of fields.Direction = DIRECTION
place_of fields.DestinationTranslated = record { first = 27; width = 1 }
place_of fields.SourceTranslated = record { first = 28; width = 1 }
place_of fields.ReplySeen = record { first = 29; width = 1 }
place_of fields.Destination = DESTINATION
place_of fields.Source = SOURCE
place_of fields.DestinationPort = DESTINATION_PORT
place_of fields.SourcePort = SOURCE_PORT
place_of fields.Cwr = record { first = 126; width = 1 }
place_of fields.Ecn = record { first = 127; width = 1 }
place_of fields.Urg = record { first = 128; width = 1 }
place_of fields.Ack = record { first = 129; width = 1 }
place_of fields.Psh = record { first = 130; width = 1 }
place_of fields.Rst = record { first = 131; width = 1 }
place_of fields.Syn = record { first = 132; width = 1 }
place_of fields.Fin = record { first = 133; width = 1 }
place_of fields.IcmpType = ICMP_TYPE
place_of fields.Length = LENGTH
place_of fields.Ttl = TTL
place_of fields.Mark = MARK
place_of fields.CtMark = CT_MARK

-- the number that a packet's bits write in a field
abbrev pub number_in : Field → (ℕ → Bool) → ℕ
number_in field packet = field_value field.first field.width packet

-- ---- facts

-- the interface of a number; beyond the box's interfaces one without index and name
abbrev pub interface_at : List Interface → ℕ → Interface
interface_at interfaces n = slice_index_or interfaces n (record { index = 0; name = 0 })

abbrev pub transport_at : ℕ → (ℕ → Bool) → Transport
transport_at n packet =
    if n == 1 then Tcp (number_in SOURCE_PORT packet) (number_in DESTINATION_PORT packet)
    (number_in FLAGS packet)
    else (if n == 2 then Udp (number_in SOURCE_PORT packet) (number_in DESTINATION_PORT packet)
    else (if n == 3 then Icmp (number_in ICMP_TYPE packet)
    else Other))

abbrev pub state_at : ℕ → CtState
state_at n = if n == 4 then states.Established else (if n == 5 then states.Related else states.New)

-- a mark, where rules may have written it
abbrev pub mark_number : MarkSource → (ℕ → Bool) → ℕ
mark_number sources.Packet packet = number_in MARK packet
mark_number sources.Connection packet = number_in CT_MARK packet
mark_number (sources.Number n) packet = n

abbrev pub ct_at : Written → ℕ → (ℕ → Bool) → CtFacts
ct_at written n packet =
    if n == 0 then cond written.untracked ct.Notrack ct.NotLookedUp
    else (if n == 1 then ct.Notrack
    else (if n == 2 then ct.Untracked
    else (if n == 3 then ct.Invalid
    else ct.Known (record {
      state = state_at n;
      direction = cond (packet 26) directions.Reply directions.Original;
      mark = mark_number written.connection packet;
      seen_reply = packet 29;
      source_translated = packet 28;
      destination_translated = packet 27;
    }))))

-- the facts that the bits of a packet write, on a box with these interfaces, with what rules have written
-- since
unfoldable pub facts_of : List Interface → Written → (ℕ → Bool) → Facts
facts_of interfaces written packet = record {
  packet = record {
    source = number_in SOURCE packet;
    destination = number_in DESTINATION packet;
    protocol = number_in PROTOCOL packet;
    ttl = number_in TTL packet;
    length = number_in LENGTH packet;
    transport = transport_at (number_in TRANSPORT packet) packet;
  };
  input = interface_at interfaces (number_in INPUT packet);
  output = cond (packet HAS_OUTPUT) (Some (interface_at interfaces (number_in OUTPUT packet))) None;
  mark = mark_number written.packet packet;
  ct = ct_at written (number_in TRACKING packet) packet;
}
