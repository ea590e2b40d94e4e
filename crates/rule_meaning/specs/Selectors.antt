-- The value of each selector for a packet (nft(8), "Payload expressions", "Meta expressions", "Conntrack
-- expressions").
use Rattle.std.specs.Prelude.{ℕ, ◌+◌, ◌*◌, ◌^◌, List, [], ◌∷◌, map, Option, Some, None, cond}
use Rattle.std.specs.Option.{option_map, option_and_then}
use Rattle.nft_tree.specs.declared.selector.Selector.{Selector}
use Rattle.nft_tree.specs.declared.selector.Selector.TheVariants as selectors
use Rattle.nft_tree.specs.ValueTypes.{selector_width, STATE_INVALID, STATE_ESTABLISHED, STATE_RELATED, STATE_NEW}
use Rattle.nft_tree.specs.ValueTypes.{STATE_UNTRACKED}
use Rattle.nft_tree.specs.ValueTypes.{STATUS_SEEN_REPLY, STATUS_SNAT, STATUS_DNAT}
use Rattle.ip_headers.specs.declared.transport.Transport.{Transport}
use Rattle.ip_headers.specs.declared.transport.Transport.TheVariants as transports
use Rattle.ip_headers.specs.Transport.{source_port_of, destination_port_of, tcp_flags_of, icmp_type_of}
use Rattle.rule_meaning.specs.declared.facts.Facts.{Facts}
use Rattle.rule_meaning.specs.declared.facts.CtFacts.{CtFacts}
use Rattle.rule_meaning.specs.declared.facts.CtFacts.TheVariants as ct
use Rattle.rule_meaning.specs.declared.facts.ConnectionFacts.{ConnectionFacts}
use Rattle.rule_meaning.specs.declared.facts.CtState.{CtState}
use Rattle.rule_meaning.specs.declared.facts.CtState.TheVariants as states
use Rattle.ip_headers.specs.declared.tuple.Direction.{Direction}
use Rattle.ip_headers.specs.declared.tuple.Direction.TheVariants as directions

-- ---- ports: no value for other protocols

abbrev pub tcp_source : Transport → Option ℕ
tcp_source (transports.Tcp source destination flags) = Some source
tcp_source _ = None

abbrev pub tcp_destination : Transport → Option ℕ
tcp_destination (transports.Tcp source destination flags) = Some destination
tcp_destination _ = None

abbrev pub udp_source : Transport → Option ℕ
udp_source (transports.Udp source destination) = Some source
udp_source _ = None

abbrev pub udp_destination : Transport → Option ℕ
udp_destination (transports.Udp source destination) = Some destination
udp_destination _ = None

-- ---- the connection. An invalid or untracked packet has a state and nothing else; before the lookup it has
-- no state either

abbrev pub state_bit : CtState → ℕ
state_bit states.Established = STATE_ESTABLISHED
state_bit states.Related = STATE_RELATED
state_bit states.New = STATE_NEW

abbrev pub ct_state : CtFacts → Option ℕ
ct_state ct.Untracked = Some STATE_UNTRACKED
ct_state ct.Invalid = Some STATE_INVALID
ct_state (ct.Known c) = Some (state_bit c.state)
ct_state _ = None

abbrev pub direction_number : Direction → ℕ
direction_number directions.Original = 0
direction_number directions.Reply = 1

-- a field of the connection, if there is one
abbrev pub of_connection : (ConnectionFacts → ℕ) → CtFacts → Option ℕ
of_connection field (ct.Known c) = Some (field c)
of_connection field _ = None

abbrev pub status_bits : ConnectionFacts → ℕ
status_bits c =
    cond c.seen_reply STATUS_SEEN_REPLY 0
    + cond c.source_translated STATUS_SNAT 0
    + cond c.destination_translated STATUS_DNAT 0

-- ---- all selectors

abbrev pub value : Selector → Facts → Option ℕ
value selectors.IpSource f = Some f.packet.source
value selectors.IpDestination f = Some f.packet.destination
value selectors.IpProtocol f = Some f.packet.protocol
value selectors.MetaProtocol f = Some f.packet.protocol
value selectors.IpTtl f = Some f.packet.ttl
value selectors.IpLength f = Some f.packet.length
value selectors.MetaLength f = Some f.packet.length
value selectors.TcpSource f = tcp_source f.packet.transport
value selectors.TcpDestination f = tcp_destination f.packet.transport
value selectors.UdpSource f = udp_source f.packet.transport
value selectors.UdpDestination f = udp_destination f.packet.transport
-- `th` for TCP and UDP only (own)
value selectors.TransportSource f = source_port_of f.packet.transport
value selectors.TransportDestination f = destination_port_of f.packet.transport
value selectors.TcpFlags f = tcp_flags_of f.packet.transport
value selectors.IcmpType f = icmp_type_of f.packet.transport
-- the input interface on every hook (own)
value selectors.InputName f = Some f.input.name
-- no output interface on prerouting and input (own)
value selectors.OutputName f = option_map (λ i. i.name) f.output
value selectors.InputIndex f = Some f.input.index
value selectors.OutputIndex f = option_map (λ i. i.index) f.output
value selectors.MetaMark f = Some f.mark
value selectors.CtMark f = of_connection (λ c. c.mark) f.ct
-- NFPROTO_IPV4
value selectors.MetaFamily f = Some 2
value selectors.CtState f = ct_state f.ct
value selectors.CtDirection f = of_connection (λ c. direction_number c.direction) f.ct
value selectors.CtStatus f = of_connection status_bits f.ct

-- ---- concatenations

-- the bits of numbers of these widths one after the other, behind `high`, the first one highest; no value if
-- one of them has none
abbrev pub join : ℕ → List (ℕ × Option ℕ) → Option ℕ
join high [] = Some high
join high (part ∷ parts) = option_and_then (λ n. join (high * 2 ^ part.0 + n) parts) part.1

abbrev pub joined_value : List Selector → Facts → Option ℕ
joined_value ss f = join 0 (map (λ s. (selector_width s, value s f)) ss)
