-- The fields of a datagram that a change may replace, as numbers; the updates of the checksums over them.
use Rattle.std.specs.Prelude.{Bool, true, ℕ, ◌+◌, ◌*◌, ◌/◌, ◌%◌, ◌≤◌, ◌==◌, ◌&&◌, ◌||◌, nat_le, List, length, drop, slice_set, Option, Some, None, unwrap_or}
use Rattle.std.specs.Prelude.{if◌then◌else◌}
use Rattle.std.specs.Option.{option_map}
use Rattle.ip_headers.specs.Bytes.{byte_at, u16_at, u32_at, with_u16, with_u32}
use Rattle.ip_headers.specs.Header.{header_len, protocol_at, payload_at}
use Rattle.rewrite.specs.declared.change.Change.{Change}
use Rattle.rewrite.specs.declared.change.PortsOrIdentifier.{PortsOrIdentifier}
use Rattle.rewrite.specs.declared.change.PortsOrIdentifier.TheVariants.{Ports, Identifier}
use Rattle.rewrite.specs.declared.checksum.ChecksumDelta.{ChecksumDelta}
use Rattle.rewrite.specs.declared.fields.Fields.{Fields}
use Rattle.rewrite.specs.declared.fields.TransportFields.{TransportFields}
use Rattle.rewrite.specs.declared.fields.TransportFields.TheVariants.{Tcp, Udp, Echo, Other}
use Rattle.rewrite.specs.Rewritten.{corrected, has_identifier, or_all_ones, with_ports}

-- ---- changes of the words under a checksum

abbrev pub u16_change : ℕ → ℕ → ChecksumDelta
u16_change one other = record { old = one; new = other; is_same = one == other }

-- a 32-bit number, as two words
abbrev pub u32_change : ℕ → ℕ → ChecksumDelta
u32_change one other = record {
  old = one / 65536 + one % 65536;
  new = other / 65536 + other % 65536;
  is_same = one == other;
}

abbrev pub combined : ChecksumDelta → ChecksumDelta → ChecksumDelta
combined a b = record { old = a.old + b.old; new = a.new + b.new; is_same = a.is_same && b.is_same }

abbrev pub updated_checksum : ChecksumDelta → ℕ → ℕ
updated_checksum words checksum = if words.is_same then checksum else corrected checksum words.old words.new

abbrev pub updated_udp_checksum : ChecksumDelta → ℕ → ℕ
updated_udp_checksum words checksum =
    if words.is_same || checksum == 0 then checksum else or_all_ones (corrected checksum words.old words.new)

-- ---- fields

-- a quoted segment may end before its checksum
abbrev pub tcp_checksum_of : List ℕ → Option ℕ
tcp_checksum_of segment = if nat_le 18 (length segment) then Some (u16_at segment 16) else None

abbrev pub transport_fields_of : ℕ → List ℕ → TransportFields
transport_fields_of number payload =
    if number == 6 then Tcp (u16_at payload 0) (u16_at payload 2) (tcp_checksum_of payload)
    else (if number == 17 then Udp (u16_at payload 0) (u16_at payload 2) (u16_at payload 6)
    else (if has_identifier number (byte_at payload 0) then Echo (u16_at payload 4) (u16_at payload 2)
    else Other))

abbrev pub fields_at : ℕ → List ℕ → Fields
fields_at start bytes = record {
  source = u32_at bytes (start + 12);
  destination = u32_at bytes (start + 16);
  ttl = byte_at bytes (start + 8);
  checksum = u16_at bytes (start + 10);
  transport = transport_fields_of (protocol_at start bytes) (drop (payload_at start bytes) bytes);
}

-- how many bytes of the payload the fields need
abbrev pub len_of : TransportFields → ℕ
len_of (Tcp from to None) = 4
len_of (Tcp from to (Some checksum)) = 18
len_of (Udp from to checksum) = 8
len_of (Echo identifier checksum) = 6
len_of Other = 0

-- the datagram has all fields
pub record HasFields (start : ℕ) (bytes : List ℕ) : Type 0 where
  pub long : 20 ≤ header_len (drop start bytes)
  pub whole : payload_at start bytes + len_of (fields_at start bytes).transport ≤ length bytes

-- ---- changed fields

abbrev pub ports_named : Option PortsOrIdentifier → ℕ → ℕ → ℕ × ℕ
ports_named (Some (Ports one other)) from to = (one, other)
ports_named _ from to = (from, to)

abbrev pub identifier_named : Option PortsOrIdentifier → ℕ → ℕ
identifier_named (Some (Identifier other)) number = other
identifier_named _ number = number

abbrev pub port_change : ℕ × ℕ → ℕ × ℕ → ChecksumDelta
port_change one other = combined (u16_change one.0 other.0) (u16_change one.1 other.1)

abbrev pub changed_transport_fields : Option PortsOrIdentifier → ChecksumDelta → TransportFields
    → TransportFields
changed_transport_fields numbers addresses (Tcp from to checksum) =
    let ports = ports_named numbers from to in
    Tcp ports.0 ports.1 (option_map (updated_checksum (combined addresses (port_change (from, to) ports)))
    checksum)
changed_transport_fields numbers addresses (Udp from to checksum) =
    let ports = ports_named numbers from to in
    Udp ports.0 ports.1 (updated_udp_checksum (combined addresses (port_change (from, to) ports)) checksum)
changed_transport_fields numbers addresses (Echo number checksum) =
    let other = identifier_named numbers number in
    Echo other (updated_checksum (u16_change number other) checksum)
changed_transport_fields numbers addresses Other = Other

-- the TTL is the high byte of its word
abbrev pub changed_fields : Change → Fields → Fields
changed_fields change fields =
    let from = unwrap_or change.source fields.source in
    let to = unwrap_or change.destination fields.destination in
    let time = unwrap_or change.ttl fields.ttl in
    let addresses = combined (u32_change fields.source from) (u32_change fields.destination to) in
    record {
      source = from;
      destination = to;
      ttl = time;
      checksum = updated_checksum (combined addresses (u16_change (fields.ttl * 256) (time * 256))) fields.checksum;
      transport = changed_transport_fields change.numbers addresses fields.transport;
    }

-- ---- a change of the TTL alone

-- these ports, or this identifier, are the ones that it has
abbrev pub keeps_numbers : Option PortsOrIdentifier → TransportFields → Bool
keeps_numbers numbers (Tcp from to checksum) =
    let ports = ports_named numbers from to in
    (ports.0 == from) && (ports.1 == to)
keeps_numbers numbers (Udp from to checksum) =
    let ports = ports_named numbers from to in
    (ports.0 == from) && (ports.1 == to)
keeps_numbers numbers (Echo number checksum) = identifier_named numbers number == number
keeps_numbers numbers Other = true

-- addresses, ports and identifier stay
abbrev pub keeps_endpoints : Change → Fields → Bool
keeps_endpoints change fields =
    (unwrap_or change.source fields.source == fields.source)
    && ((unwrap_or change.destination fields.destination == fields.destination)
    && keeps_numbers change.numbers fields.transport)

-- the datagram with another TTL, and the header checksum updated for it
abbrev pub with_ttl_field : ℕ → List ℕ → Fields → Option ℕ → List ℕ
with_ttl_field start bytes fields ttl =
    with_u16 (slice_set bytes (start + 8) (unwrap_or ttl fields.ttl)) (start + 10)
    (updated_checksum (u16_change (fields.ttl * 256) (unwrap_or ttl fields.ttl * 256)) fields.checksum)

-- ---- the changed words of a whole datagram

-- the words of the payload: 0 where there are fewer than three
abbrev pub transport_words : TransportFields → ℕ × ℕ × ℕ
transport_words (Tcp from to checksum) = (from, to, unwrap_or checksum 0)
transport_words (Udp from to checksum) = (from, to, checksum)
transport_words (Echo identifier checksum) = (identifier, 0, checksum)
transport_words Other = (0, 0, 0)

abbrev pub and_transport_words : ChecksumDelta → ℕ × ℕ × ℕ → ℕ × ℕ × ℕ → ChecksumDelta
and_transport_words words old new =
    combined (combined (combined words (u16_change old.0 new.0)) (u16_change old.1 new.1))
    (u16_change old.2 new.2)

-- in the order in which they are written
abbrev pub fields_change : Fields → Fields → ChecksumDelta
fields_change old new =
    let addresses =
    combined (u32_change old.source new.source) (u32_change old.destination new.destination) in
    let timed = combined addresses (u16_change (old.ttl * 256) (new.ttl * 256)) in
    combined (and_transport_words timed (transport_words old.transport) (transport_words new.transport))
    (u16_change old.checksum new.checksum)

-- ---- writing fields

abbrev pub with_transport_fields : ℕ → List ℕ → TransportFields → List ℕ
with_transport_fields offset bytes (Tcp from to None) = with_ports offset bytes from to
with_transport_fields offset bytes (Tcp from to (Some checksum)) =
    with_u16 (with_ports offset bytes from to) (offset + 16) checksum
with_transport_fields offset bytes (Udp from to checksum) =
    with_u16 (with_ports offset bytes from to) (offset + 6) checksum
with_transport_fields offset bytes (Echo identifier checksum) =
    with_u16 (with_u16 bytes (offset + 4) identifier) (offset + 2) checksum
with_transport_fields offset bytes Other = bytes

abbrev pub with_fields : ℕ → List ℕ → Fields → List ℕ
with_fields start bytes fields =
    let numbers = with_u32 (with_u32 bytes (start + 12) fields.source) (start + 16) fields.destination in
    let timed = slice_set numbers (start + 8) fields.ttl in
    with_u16 (with_transport_fields (payload_at start bytes) timed fields.transport) (start + 10) fields.checksum
