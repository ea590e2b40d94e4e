-- Tuples, by which connection tracking and translation identify packets: addresses and ports (RFC 4787 for
-- UDP, RFC 5382 for TCP), and the identifiers of ICMP queries in place of ports (RFC 5508, section 3.1).
use Rattle.std.specs.Prelude.{ℕ, ◌+◌, ◌%◌, ◌==◌, ◌&&◌, ◌||◌, nat_le, Bool, List, length}
use Rattle.std.specs.Prelude.{drop, Option, Some, None, if◌then◌else◌}
use Rattle.std.specs.Option.{option_map}
use Rattle.ip_headers.specs.declared.tuple.Kind.{Kind}
use Rattle.ip_headers.specs.declared.tuple.Kind.TheVariants.{Tcp, Udp, EchoRequest, EchoReply, Other}
use Rattle.ip_headers.specs.declared.tuple.Tuple.{Tuple}
use Rattle.ip_headers.specs.Header.{version, header_len, flags_and_offset, protocol}
use Rattle.ip_headers.specs.Header.{source, destination, payload_of}
use Rattle.ip_headers.specs.Transport.{source_port, destination_port, icmp_type, identifier}

-- ---- kinds

-- ICMP type 8 is an echo request, type 0 an echo reply (RFC 792), whatever the code; other messages have no
-- kind
abbrev pub echo_kind : ℕ → Option Kind
echo_kind message =
    if message == 8 then Some EchoRequest else (if message == 0 then Some EchoReply else None)

-- by protocol number and payload
abbrev pub kind_of : ℕ → List ℕ → Option Kind
kind_of number payload =
    if number == 6 then Some Tcp
    else (if number == 17 then Some Udp
    else (if number == 1 then echo_kind (icmp_type payload)
    else Some (Other number)))

-- an echo reply goes back to where its request came from
abbrev pub inverse_kind : Kind → Kind
inverse_kind EchoRequest = EchoReply
inverse_kind EchoReply = EchoRequest
inverse_kind same = same

-- ---- ports by kind: an identifier is the port of the side that sends requests; 0 where there is none (own)

abbrev pub port_from : Kind → List ℕ → ℕ
port_from Tcp payload = source_port payload
port_from Udp payload = source_port payload
port_from EchoRequest payload = identifier payload
port_from _ payload = 0

abbrev pub port_to : Kind → List ℕ → ℕ
port_to Tcp payload = destination_port payload
port_to Udp payload = destination_port payload
port_to EchoReply payload = identifier payload
port_to _ payload = 0

-- ---- tuples

abbrev pub tuple_with : Kind → List ℕ → List ℕ → Tuple
tuple_with one datagram payload = record {
  kind = one;
  source = record { address = source datagram; port = port_from one payload };
  destination = record { address = destination datagram; port = port_to one payload };
}

-- of a datagram, by its header and its payload
abbrev pub tuple_in : List ℕ → List ℕ → Option Tuple
tuple_in datagram payload =
    option_map (λ one. tuple_with one datagram payload) (kind_of (protocol datagram) payload)

abbrev pub tuple_of : List ℕ → Option Tuple
tuple_of packet = tuple_in packet (payload_of packet)

-- the tuple of packets in the other direction
abbrev pub inverse : Tuple → Tuple
inverse t = record { kind = inverse_kind t.kind; source = t.destination; destination = t.source }

-- ---- the datagram that an ICMP error quotes (RFC 792; RFC 5508, section 4.2)

-- destination unreachable, source quench, redirect, time exceeded, parameter problem (RFC 792)
abbrev pub is_error_type : ℕ → Bool
is_error_type message = message == 3 || message == 4 || message == 5 || message == 11 || message == 12

abbrev pub is_error : List ℕ → Bool
is_error packet = protocol packet == 1 && is_error_type (icmp_type (payload_of packet))

-- the quoted bytes: they follow the error's 8 bytes
abbrev pub inner_of : List ℕ → List ℕ
inner_of packet = drop 8 (payload_of packet)

-- a quoted datagram that can be translated (own): version 4, a header of at least 20 bytes, fragment offset
-- 0 (the low 13 bits of its word), and 8 bytes past the header. Its total length, its checksum and MF aren't
-- tested
abbrev pub is_readable : List ℕ → Bool
is_readable inner =
    version inner == 4 && nat_le 20 (header_len inner) && flags_and_offset inner % 8192 == 0
    && nat_le (header_len inner + 8) (length inner)

-- the quoted datagram's tuple, if it can be translated and has one
abbrev pub inner_tuple : List ℕ → Option Tuple
inner_tuple inner = if is_readable inner then tuple_in inner (drop (header_len inner) inner) else None

abbrev pub inner_tuple_of : List ℕ → Option Tuple
inner_tuple_of packet = if is_error packet then inner_tuple (inner_of packet) else None
