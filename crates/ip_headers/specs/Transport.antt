-- The transport headers that rules and translation read: TCP (RFC 9293, section 3.1), UDP (RFC 768) and ICMP
-- (RFC 792).
use Rattle.std.specs.Prelude.{ℕ, ◌*◌, ◌/◌, ◌==◌, ◌||◌, nat_lt, Bool, false, List, length}
use Rattle.std.specs.Prelude.{Option, Some, None, if◌then◌else◌}
use Rattle.ip_headers.specs.declared.transport.Transport.{Transport}
use Rattle.ip_headers.specs.declared.transport.Transport.TheVariants.{Tcp, Udp, Icmp, Other}
use Rattle.ip_headers.specs.Bytes.{byte_at, u16_at}

-- ---- fields, by their offsets in the payload

-- TCP and UDP
abbrev pub source_port : List ℕ → ℕ
source_port payload = u16_at payload 0

abbrev pub destination_port : List ℕ → ℕ
destination_port payload = u16_at payload 2

-- TCP: the length of the header in 32-bit words
abbrev pub data_offset : List ℕ → ℕ
data_offset payload = byte_at payload 12 / 16

-- TCP: CWR, ECE, URG, ACK, PSH, RST, SYN and FIN, from the most to the least significant bit
abbrev pub tcp_flags : List ℕ → ℕ
tcp_flags payload = byte_at payload 13

-- UDP: the length of header and data in bytes
abbrev pub udp_length : List ℕ → ℕ
udp_length payload = u16_at payload 4

-- ICMP
abbrev pub icmp_type : List ℕ → ℕ
icmp_type payload = byte_at payload 0

-- ICMP echo and echo reply
abbrev pub identifier : List ℕ → ℕ
identifier payload = u16_at payload 4

-- ---- the tests on a payload

-- shorter than a header without options (20 bytes), or a data offset below 5 or beyond the end
abbrev pub tcp_is_malformed : List ℕ → Bool
tcp_is_malformed payload =
    nat_lt (length payload) 20 || nat_lt (data_offset payload) 5
    || nat_lt (length payload) (data_offset payload * 4)

-- shorter than a header (8 bytes), or a length below 8 or beyond the end
abbrev pub udp_is_malformed : List ℕ → Bool
udp_is_malformed payload =
    nat_lt (length payload) 8 || nat_lt (udp_length payload) 8
    || nat_lt (length payload) (udp_length payload)

-- shorter than the 8 bytes that every message begins with
abbrev pub icmp_is_malformed : List ℕ → Bool
icmp_is_malformed payload = nat_lt (length payload) 8

-- by protocol number (IANA): TCP 6, UDP 17, ICMP 1; other protocols aren't tested
abbrev pub transport_is_malformed : ℕ → List ℕ → Bool
transport_is_malformed number payload =
    if number == 6 then tcp_is_malformed payload
    else (if number == 17 then udp_is_malformed payload
    else (if number == 1 then icmp_is_malformed payload
    else false))

-- ---- what a payload is

abbrev pub transport_in : ℕ → List ℕ → Transport
transport_in number payload =
    if number == 6 then Tcp (source_port payload) (destination_port payload) (tcp_flags payload)
    else (if number == 17 then Udp (source_port payload) (destination_port payload)
    else (if number == 1 then Icmp (icmp_type payload)
    else Other))

-- a field, where the protocol has it
abbrev pub source_port_of : Transport → Option ℕ
source_port_of (Tcp from to bits) = Some from
source_port_of (Udp from to) = Some from
source_port_of _ = None

abbrev pub destination_port_of : Transport → Option ℕ
destination_port_of (Tcp from to bits) = Some to
destination_port_of (Udp from to) = Some to
destination_port_of _ = None

abbrev pub tcp_flags_of : Transport → Option ℕ
tcp_flags_of (Tcp from to bits) = Some bits
tcp_flags_of _ = None

abbrev pub icmp_type_of : Transport → Option ℕ
icmp_type_of (Icmp message) = Some message
icmp_type_of _ = None
