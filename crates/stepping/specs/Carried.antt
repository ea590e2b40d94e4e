-- The packet of a record, its input interface, and what rules read of it at first.
use Rattle.std.specs.Prelude.{ℕ, List, [], drop, Option, Some, None, Result, Ok, Err, unwrap_or}
use Rattle.std.specs.Option.{option_map}
use Rattle.box_file.specs.Box.{PlantTree, name_of}
use Rattle.nft_values.specs.Values.{padded}
use Rattle.ip_headers.specs.declared.view.HeaderFault.{HeaderFault}
use Rattle.ip_headers.specs.declared.view.HeaderFault.TheVariants as headers
use Rattle.ip_headers.specs.Header.{fault_of, packet_of, total_len, protocol, source, destination, ttl}
use Rattle.ip_headers.specs.Header.{transport_of}
use Rattle.pcap_io.specs.declared.link.Link.{Link}
use Rattle.pcap_io.specs.declared.link.LinkCause.{LinkCause}
use Rattle.pcap_io.specs.declared.link.LinkCause.TheVariants as links
use Rattle.pcap_io.specs.Links.{link_of}
use Rattle.pcap_io.specs.Pcap.{Recorded}
use Rattle.rule_meaning.specs.declared.facts.Packet.{Packet}
use Rattle.rule_meaning.specs.declared.facts.Interface.{Interface}
use Rattle.history.specs.declared.outcome.Cause.{Cause}
use Rattle.history.specs.declared.outcome.Cause.TheVariants as causes
use Rattle.history.specs.Setup.{Setup}

-- ---- the packet of a record

-- a packet and the index of its input interface
pub record ReceivedPacket : Type 0 where
  pub interface : ℕ
  pub packet : List ℕ

abbrev pub link_cause : LinkCause → Cause
link_cause links.Short = causes.Short
link_cause links.NotIp = causes.NotIp
link_cause links.Link = causes.Link

abbrev pub cause_of : HeaderFault → Cause
cause_of headers.Short = causes.Short
cause_of headers.Version = causes.Version
cause_of headers.HeaderLength = causes.HeaderLength
cause_of headers.Length = causes.Length
cause_of headers.Truncated = causes.Truncated
cause_of headers.Checksum = causes.Checksum
cause_of headers.Fragment = causes.Fragment
cause_of headers.Transport = causes.Transport

-- the input interface: the link header's, if the box has it; without one the box file's default (own)
abbrev pub input_interface : Setup → Option ℕ → Option ℕ
input_interface setup None = Some setup.network.entering
input_interface setup (Some index) = option_map (λ name. index) (name_of setup.network index)

-- the packet of a record, or why it carries none: the first test that fails, of the link header, the input
-- interface and the packet's headers (RFC 791), in this order (own)
abbrev pub carried_with : ℕ → List ℕ → Option HeaderFault → Result ReceivedPacket Cause
carried_with index bytes (Some fault) = Err (cause_of fault)
carried_with index bytes None = Ok (record { interface = index; packet = packet_of bytes })

abbrev pub carried_by : List ℕ → Option ℕ → Result ReceivedPacket Cause
carried_by bytes None = Err causes.Interface
carried_by bytes (Some index) = carried_with index bytes (fault_of bytes)

abbrev pub carried_after : Setup → List ℕ → Result Link LinkCause → Result ReceivedPacket Cause
carried_after setup bytes (Err cause) = Err (link_cause cause)
carried_after setup bytes (Ok link) =
    carried_by (drop link.packet bytes) (input_interface setup link.interface)

abbrev pub carried : Setup → Recorded → Result ReceivedPacket Cause
carried setup r = carried_after setup r.bytes (link_of r.link r.bytes)

-- ---- what rules read of it

abbrev pub packet_facts : List ℕ → Packet
packet_facts p = record {
  source = source p;
  destination = destination p;
  protocol = protocol p;
  ttl = ttl p;
  length = total_len p;
  transport = transport_of p;
}

-- an interface of the box; its name is padded with zeros
abbrev pub interface_facts : PlantTree → ℕ → Interface
interface_facts network index = record { index = index; name = padded 0 (unwrap_or (name_of network index) []) }
