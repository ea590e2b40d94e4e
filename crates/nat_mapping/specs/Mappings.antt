-- The mappings of a NAT (RFC 4787, section 4.1), as the list of all that are held: each is in it once for
-- each of its holders, so a mapping is live as long as it is in the list.
use Rattle.std.specs.Prelude.{ℕ, Bool, not, ◌&&◌, ◌==◌, is_some, List, Option}
use Rattle.std.specs.Prelude.{Some, None}
use Rattle.std.specs.List.{find}
use Rattle.std.specs.Option.{option_map}
use Rattle.ip_headers.specs.declared.tuple.Kind.{Kind}
use Rattle.ip_headers.specs.declared.tuple.Kind.TheVariants.{Tcp, Udp, EchoRequest, EchoReply, Other}
use Rattle.ip_headers.specs.declared.tuple.Endpoint.{Endpoint}
use Rattle.ip_headers.specs.declared.tuple.Mapping.{Mapping}
use Rattle.ip_headers.specs.Same.{same_kind, same_endpoint}
use Rattle.port_pool.specs.declared.order.Order.{Order}
use Rattle.port_pool.specs.declared.order.Order.TheVariants as orders
use Rattle.port_pool.specs.declared.range.CandidateRange.{CandidateRange}
use Rattle.port_pool.specs.Candidates.{candidates}

-- ---- one mapping

abbrev pub same_mapping : Mapping → Mapping → Bool
same_mapping a b =
    same_kind a.kind b.kind && (same_endpoint a.internal b.internal && same_endpoint a.external b.external)

-- the mapping has this external endpoint
abbrev pub has_external : Kind → Endpoint → Mapping → Bool
has_external kind external m = same_kind m.kind kind && same_endpoint m.external external

-- the mapping takes this internal endpoint to this external address
abbrev pub has_internal : Kind → Endpoint → ℕ → Mapping → Bool
has_internal kind internal address m =
    same_kind m.kind kind && (same_endpoint m.internal internal && m.external.address == address)

-- ---- the mappings held

-- the internal endpoint behind an external one (RFC 4787, section 5: inbound packets)
unfoldable pub inbound_of : Kind → Endpoint → List Mapping → Option Endpoint
inbound_of kind external held = option_map (λ m. m.internal) (find (has_external kind external) held)

-- the port that an internal endpoint is mapped to at an external address
unfoldable pub port_of : Kind → Endpoint → ℕ → List Mapping → Option ℕ
port_of kind internal address held =
    option_map (λ m. m.external.port) (find (has_internal kind internal address) held)

-- whether an external port is mapped
abbrev pub is_port_held : Kind → ℕ → List Mapping → ℕ → Bool
is_port_held kind address held port =
    is_some (inbound_of kind (record { address = address; port = port }) held)

-- ---- the port of a new mapping

-- the ports of a kind: those of TCP and UDP, the identifiers of ICMP echo, or 0 alone
abbrev pub order_of : Kind → Order
order_of Tcp = orders.Ports
order_of Udp = orders.Ports
order_of EchoRequest = orders.Identifiers
order_of EchoReply = orders.Identifiers
order_of (Other number) = orders.Zero

abbrev pub or_else : Option ℕ → Option ℕ → Option ℕ
or_else (Some port) other = Some port
or_else None other = other

-- the first candidate that isn't mapped (RFC 4787, REQ-3: no port overloading)
abbrev pub first_free_port : Kind → Endpoint → ℕ → Option CandidateRange → List Mapping → Option ℕ
first_free_port kind internal address range held =
    find (λ port. not (is_port_held kind address held port)) (candidates (order_of kind) internal.port range)

-- the port that an internal endpoint gets at an external address: the one that it is mapped to, whatever the
-- destination, even outside the rule's range (RFC 4787, REQ-1: endpoint-independent mapping); else the first
-- free one; none where all candidates are mapped
abbrev pub source_of : Kind → Endpoint → ℕ → Option CandidateRange → List Mapping → Option ℕ
source_of kind internal address range held =
    or_else (port_of kind internal address held) (first_free_port kind internal address range held)
