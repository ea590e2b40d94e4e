-- Equality of tuples (own: identifiers of ICMP queries aren't ports).
use Rattle.std.specs.Prelude.{Bool, true, false, ◌==◌, ◌&&◌}
use Rattle.ip_headers.specs.declared.tuple.Kind.{Kind}
use Rattle.ip_headers.specs.declared.tuple.Kind.TheVariants.{Tcp, Udp, EchoRequest, EchoReply, Other}
use Rattle.ip_headers.specs.declared.tuple.Endpoint.{Endpoint}
use Rattle.ip_headers.specs.declared.tuple.Tuple.{Tuple}

-- ports of different kinds are never the same, so an identifier is no port
abbrev pub same_kind : Kind → Kind → Bool
same_kind Tcp Tcp = true
same_kind Udp Udp = true
same_kind EchoRequest EchoRequest = true
same_kind EchoReply EchoReply = true
same_kind (Other a) (Other b) = a == b
same_kind a b = false

abbrev pub same_endpoint : Endpoint → Endpoint → Bool
same_endpoint a b = a.address == b.address && a.port == b.port

abbrev pub same_tuple : Tuple → Tuple → Bool
same_tuple a b =
    same_kind a.kind b.kind && (same_endpoint a.source b.source && same_endpoint a.destination b.destination)
