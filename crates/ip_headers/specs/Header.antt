-- The header of an IPv4 packet (RFC 791, section 3.1), and the tests that a record's bytes must pass. The
-- order of the tests is this project's own (own).
use Rattle.std.specs.Prelude.{ℕ, ◌+◌, ◌*◌, ◌/◌, ◌%◌, ◌==◌, nat_lt, not, Bool, List, length}
use Rattle.std.specs.Prelude.{take, drop, Option, Some, None, if◌then◌else◌}
use Rattle.ip_headers.specs.declared.view.HeaderFault.{HeaderFault}
use Rattle.ip_headers.specs.declared.view.HeaderFault.TheVariants.{Short, Version, HeaderLength, Length}
use Rattle.ip_headers.specs.declared.view.HeaderFault.TheVariants.{Truncated, Checksum, Fragment, Transport}
use Rattle.ip_headers.specs.Bytes.{byte_at, u16_at, u32_at}
use Rattle.ip_headers.specs.Sum.{ones_sum_of}
use Rattle.ip_headers.specs.Transport.{transport_in, transport_is_malformed}
use Rattle.ip_headers.specs.declared.transport.Transport.{Transport as PacketTransport}

-- the fields of the header
abbrev pub version : List ℕ → ℕ
version bytes = byte_at bytes 0 / 16

-- the header's length in bytes: IHL counts words of four
abbrev pub header_len : List ℕ → ℕ
header_len bytes = byte_at bytes 0 % 16 * 4

abbrev pub total_len : List ℕ → ℕ
total_len bytes = u16_at bytes 2

-- the reserved bit, DF, MF and the offset in units of eight bytes
abbrev pub flags_and_offset : List ℕ → ℕ
flags_and_offset bytes = u16_at bytes 6

abbrev pub ttl : List ℕ → ℕ
ttl bytes = byte_at bytes 8

abbrev pub protocol : List ℕ → ℕ
protocol bytes = byte_at bytes 9

abbrev pub source : List ℕ → ℕ
source bytes = u32_at bytes 12

abbrev pub destination : List ℕ → ℕ
destination bytes = u32_at bytes 16

-- the header: with a correct checksum its ones' complement sum is ffff
abbrev pub header : List ℕ → List ℕ
header bytes = take (header_len bytes) bytes

-- the packet at the front of a record: bytes past the total length, such as link padding, are ignored
abbrev pub packet_of : List ℕ → List ℕ
packet_of bytes = take (total_len bytes) bytes

-- the bytes after the header
abbrev pub payload_of : List ℕ → List ℕ
payload_of bytes = drop (header_len bytes) (packet_of bytes)

-- ---- a datagram that begins at an offset of a packet: at 0 the packet itself

abbrev pub protocol_at : ℕ → List ℕ → ℕ
protocol_at start bytes = protocol (drop start bytes)

-- the offset of its payload
abbrev pub payload_at : ℕ → List ℕ → ℕ
payload_at start bytes = start + header_len (drop start bytes)

-- ---- the tests, in order

-- MF is set or the offset isn't 0: all but the two highest bits
abbrev pub is_fragment : List ℕ → Bool
is_fragment bytes = not (flags_and_offset bytes % 16384 == 0)

-- the first test that fails, in this order
abbrev pub fault_of : List ℕ → Option HeaderFault
fault_of bytes =
    if nat_lt (length bytes) 20 then Some Short
    else (if not (version bytes == 4) then Some Version
    else (if nat_lt (header_len bytes) 20 then Some HeaderLength
    else (if nat_lt (total_len bytes) (header_len bytes) then Some Length
    else (if nat_lt (length bytes) (total_len bytes) then Some Truncated
    else (if not (ones_sum_of (header bytes) == 65535) then Some Checksum
    else (if is_fragment bytes then Some Fragment
    else (if transport_is_malformed (protocol bytes) (payload_of bytes) then Some Transport
    else None)))))))

-- the transport header of a packet
abbrev pub transport_of : List ℕ → PacketTransport
transport_of packet = transport_in (protocol packet) (payload_of packet)
