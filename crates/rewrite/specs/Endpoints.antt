-- Header changes by which a packet goes between other endpoints (RFC 3022, section 4.1; RFC 5508, section
-- 3.1 for identifiers).
use Rattle.std.specs.Prelude.{◌≡◌, ℕ, Option, Some, None}
use Rattle.ip_headers.specs.declared.tuple.Kind.{Kind}
use Rattle.ip_headers.specs.declared.tuple.Kind.TheVariants.{Tcp, Udp, EchoRequest, EchoReply, Other}
use Rattle.ip_headers.specs.declared.tuple.Tuple.{Tuple}
use Rattle.rewrite.specs.declared.change.Change.{Change}
use Rattle.rewrite.specs.declared.change.PortsOrIdentifier.{PortsOrIdentifier}
use Rattle.rewrite.specs.declared.change.PortsOrIdentifier.TheVariants.{Ports, Identifier}

-- the ports or the identifier of a tuple, by its kind
abbrev pub ports_or_identifier : Kind → ℕ → ℕ → Option PortsOrIdentifier
ports_or_identifier Tcp from to = Some (Ports from to)
ports_or_identifier Udp from to = Some (Ports from to)
ports_or_identifier EchoRequest from to = Some (Identifier from)
ports_or_identifier EchoReply from to = Some (Identifier to)
ports_or_identifier (Other number) from to = None

-- the change by which a packet gets the endpoints of a tuple, and this TTL or its own
abbrev pub between : Tuple → Option ℕ → Change
between t remaining = record {
  source = Some t.source.address;
  destination = Some t.destination.address;
  numbers = ports_or_identifier t.kind t.source.port t.destination.port;
  ttl = remaining;
  inner = None;
}

-- the port is 0 where the kind has none
abbrev pub PortsMatchKind : Kind → ℕ → ℕ → Type 0
PortsMatchKind Tcp from to = Unit {0}
PortsMatchKind Udp from to = Unit {0}
PortsMatchKind EchoRequest from to = to ≡ 0
PortsMatchKind EchoReply from to = from ≡ 0
PortsMatchKind (Other number) from to = (from ≡ 0) × (to ≡ 0)
