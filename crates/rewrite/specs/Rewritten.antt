-- A packet as it is forwarded: the given fields are replaced, each checksum over a changed word is updated
-- incrementally (RFC 1624), and no other byte changes (RFC 3022, section 4.1).
use Rattle.std.specs.Prelude.{ℕ, ◌+◌, ◌-◌, ◌%◌, ◌==◌, ◌&&◌, ◌||◌, nat_le, Bool, true, false}
use Rattle.std.specs.Prelude.{List, [], ◌∷◌, ◌++◌, length, take, drop, slice_set, is_some}
use Rattle.std.specs.Prelude.{Option, Some, None, if◌then◌else◌}
use Rattle.ip_headers.specs.Bytes.{byte_at, u16_at, with_u16, with_u32}
use Rattle.ip_headers.specs.Sum.{words_sum}
use Rattle.ip_headers.specs.Header.{header, protocol_at, payload_at}
use Rattle.ip_headers.specs.Tuple.{inner_tuple_of}
use Rattle.ip_headers.specs.declared.tuple.Tuple.{Tuple}
use Rattle.rewrite.specs.Endpoints.{between}
use Rattle.rewrite.specs.declared.change.Change.{Change}
use Rattle.rewrite.specs.declared.change.PortsOrIdentifier.{PortsOrIdentifier}
use Rattle.rewrite.specs.declared.change.PortsOrIdentifier.TheVariants.{Ports, Identifier}

-- ---- fields of a datagram that begins at an offset: at 0 the packet itself

-- writes a value, if one is given
abbrev pub write_if_some : {A : Type 0} → (List ℕ → A → List ℕ) → List ℕ → Option A → List ℕ
write_if_some write bytes None = bytes
write_if_some write bytes (Some x) = write bytes x

abbrev pub with_source_address : ℕ → List ℕ → ℕ → List ℕ
with_source_address start bytes address = with_u32 bytes (start + 12) address

abbrev pub with_destination_address : ℕ → List ℕ → ℕ → List ℕ
with_destination_address start bytes address = with_u32 bytes (start + 16) address

abbrev pub with_ttl : ℕ → List ℕ → ℕ → List ℕ
with_ttl start bytes ttl = slice_set bytes (start + 8) ttl

-- writes two ports at the front of a payload
abbrev pub with_ports : ℕ → List ℕ → ℕ → ℕ → List ℕ
with_ports offset bytes from to = with_u16 (with_u16 bytes offset from) (offset + 2) to

-- only the messages echo request (8) and echo reply (0) of ICMP have an identifier (RFC 792): in others other
-- fields stand in its place
abbrev pub has_identifier : ℕ → ℕ → Bool
has_identifier number message = number == 1 && (message == 8 || message == 0)

-- writes ports for TCP and UDP alone, and an identifier for ICMP echo request and echo reply alone
abbrev pub with_numbers : ℕ → List ℕ → PortsOrIdentifier → List ℕ
with_numbers start bytes (Ports from to) =
    if protocol_at start bytes == 6 || protocol_at start bytes == 17
    then with_ports (payload_at start bytes) bytes from to else bytes
with_numbers start bytes (Identifier number) =
    if has_identifier (protocol_at start bytes) (byte_at bytes (payload_at start bytes))
    then with_u16 bytes (payload_at start bytes + 4) number else bytes

-- the given fields are replaced, the checksums are as they were
abbrev pub replaced : ℕ → List ℕ → Change → List ℕ
replaced start bytes change =
    let from = write_if_some (with_source_address start) bytes change.source in
    let to = write_if_some (with_destination_address start) from change.destination in
    let timed = write_if_some (with_ttl start) to change.ttl in
    write_if_some (with_numbers start) timed change.numbers

-- ---- checksums

abbrev pub same_bytes : List ℕ → List ℕ → Bool
same_bytes [] [] = true
same_bytes (x ∷ xs) (y ∷ ys) = (x == y) && same_bytes xs ys
same_bytes _ _ = false

-- the incremental update (RFC 1624, section 3): the number from 0 to 65534 that is congruent to the checksum
-- plus the old words minus the new ones, modulo 65535
abbrev pub corrected : ℕ → ℕ → ℕ → ℕ
corrected checksum old new = (checksum + old + (65535 - new % 65535)) % 65535

-- updates the checksum at an offset, which covers the bytes that `over` selects: it stays if none of them
-- changed, else it is updated for all of them. Unchanged words cancel out, and so do the checksum's own two
-- bytes, which are still the old ones
abbrev pub update_checksum : (List ℕ → List ℕ) → ℕ → List ℕ → List ℕ → List ℕ
update_checksum over offset old now =
    if same_bytes (over old) (over now) then now
    else with_u16 now offset (corrected (u16_at old offset) (words_sum (over old)) (words_sum (over now)))

-- a computed UDP checksum of 0 is written as ffff (RFC 768)
abbrev pub or_all_ones : ℕ → ℕ
or_all_ones checksum = if checksum == 0 then 65535 else checksum

-- the same for UDP: 0 means that the sender made no checksum, and stays (RFC 768)
abbrev pub update_udp_checksum : (List ℕ → List ℕ) → ℕ → List ℕ → List ℕ → List ℕ
update_udp_checksum over offset old now =
    if same_bytes (over old) (over now) || u16_at old offset == 0 then now
    else with_u16 now offset
    (or_all_ones (corrected (u16_at old offset) (words_sum (over old)) (words_sum (over now))))

-- what the header checksum covers (RFC 791, section 3.1)
abbrev pub header_in : ℕ → List ℕ → List ℕ
header_in start bytes = header (drop start bytes)

-- what the checksum of ICMP covers: the payload (RFC 792)
abbrev pub payload_in : ℕ → List ℕ → List ℕ
payload_in start bytes = drop (payload_at start bytes) bytes

-- what the checksums of TCP and UDP cover: the pseudo header and the payload (RFC 9293, section 3.1; RFC
-- 768). Of the pseudo header only the two addresses are here, as its other words never change
abbrev pub pseudo_header_and_payload : ℕ → List ℕ → List ℕ
pseudo_header_and_payload start bytes = take 8 (drop (start + 12) bytes) ++ payload_in start bytes

-- updates the checksum of the transport header, by protocol; for TCP if its bytes are there
abbrev pub update_transport_checksum : ℕ → List ℕ → List ℕ → List ℕ
update_transport_checksum start old now =
    if protocol_at start old == 6 && nat_le (payload_at start old + 18) (length old)
    then update_checksum (pseudo_header_and_payload start) (payload_at start old + 16) old now
    else (if protocol_at start old == 17
    then update_udp_checksum (pseudo_header_and_payload start) (payload_at start old + 6) old now
    else (if protocol_at start old == 1
    then update_checksum (payload_in start) (payload_at start old + 2) old now
    else now))

abbrev pub update_header_checksum : ℕ → List ℕ → List ℕ → List ℕ
update_header_checksum start old now = update_checksum (header_in start) (start + 10) old now

-- updates both checksums of a datagram
abbrev pub update_checksums : ℕ → List ℕ → List ℕ → List ℕ
update_checksums start old now = update_header_checksum start old (update_transport_checksum start old now)

-- ---- the datagram that an ICMP error quotes (RFC 5508, section 4.2)

-- its offset: after the error's 8 bytes (RFC 792)
abbrev pub inner_start : List ℕ → ℕ
inner_start packet = payload_at 0 packet + 8

-- a datagram with other endpoints, its own checksums updated; its TTL stays
abbrev pub with_endpoints : ℕ → List ℕ → Tuple → List ℕ
with_endpoints start bytes t = update_checksums start bytes (replaced start bytes (between t None))

-- an error that quotes a datagram with other endpoints; the error's checksum covers the datagram
abbrev pub with_inner : List ℕ → Tuple → List ℕ
with_inner packet t =
    if is_some (inner_tuple_of packet)
    then update_checksum (payload_in 0) (payload_at 0 packet + 2) packet
    (with_endpoints (inner_start packet) packet t)
    else packet

-- ---- the packet

-- first the quoted datagram, then the packet's own fields
unfoldable pub rewritten : List ℕ → Change → List ℕ
rewritten packet change =
    let inner_rewritten = write_if_some with_inner packet change.inner in
    update_checksums 0 inner_rewritten (replaced 0 inner_rewritten change)
