-- Data types: which one a selector reads, its width, and its symbolic constants (nft(8), "Data types" and the
-- expressions' sections; constants and widths as `nft describe` lists them).
use Rattle.std.specs.Prelude.{ℕ, List, [], ◌∷◌, Option, Some, None, cond, codes}
use Rattle.std.specs.Borrow.{Bor}
use Rattle.std.specs.Str.{bytes_eq}
use Rattle.nft_tree.specs.declared.selector.Selector.{Selector}
use Rattle.nft_tree.specs.declared.selector.Selector.TheVariants as selectors
use Rattle.nft_tree.specs.declared.selector.ValueType.{ValueType}
use Rattle.nft_tree.specs.declared.selector.ValueType.TheVariants as value_types

-- The value of the first entry with this name.
abbrev pub entry_in : {A : Type 0} → List (List ℕ × A) → List ℕ → Option A
entry_in [] name = None
entry_in (entry ∷ rest) name = cond (bytes_eq entry.0 name) (Some entry.1) (entry_in rest name)

-- An entry of a static table, without the reference to its name.
abbrev pub entry_of : {A : Type 0} → Bor (List ℕ) × A → List ℕ × A
entry_of pair = (pair.0.now, pair.1)

-- ---- data types

-- The data types by their names (nft(8), "Data types").
abbrev pub named_types : List (List ℕ × ValueType)
named_types =
    (codes "ipv4_addr", value_types.Address)
    ∷ (codes "inet_proto", value_types.Protocol)
    ∷ (codes "inet_service", value_types.Service)
    ∷ (codes "tcp_flag", value_types.TcpFlag)
    ∷ (codes "icmp_type", value_types.IcmpType)
    ∷ (codes "ifname", value_types.InterfaceName)
    ∷ (codes "iface_index", value_types.InterfaceIndex)
    ∷ (codes "mark", value_types.Mark)
    ∷ (codes "nf_proto", value_types.Family)
    ∷ (codes "ct_state", value_types.CtState)
    ∷ (codes "ct_dir", value_types.CtDirection)
    ∷ (codes "ct_status", value_types.CtStatus)
    ∷ []

-- The data type of this name.
abbrev pub type_named : List ℕ → Option ValueType
type_named = entry_in named_types

-- The width of a data type in bits (nft(8), "Data types").
abbrev pub type_width : ValueType → ℕ
type_width value_types.Address = 32
type_width value_types.Protocol = 8
type_width value_types.Service = 16
type_width value_types.TcpFlag = 8
type_width value_types.IcmpType = 8
type_width value_types.InterfaceName = 128
type_width value_types.InterfaceIndex = 32
type_width value_types.Mark = 32
type_width value_types.Family = 8
type_width value_types.CtState = 32
type_width value_types.CtDirection = 8
type_width value_types.CtStatus = 32

-- ---- selectors

-- The data type of what a selector reads; none for `ip ttl`, `ip length` and `meta length`, whose type is a
-- plain integer (nft(8), "Payload expressions", "Meta expressions", "Conntrack expressions").
abbrev pub selector_type : Selector → Option ValueType
selector_type selectors.IpSource = Some value_types.Address
selector_type selectors.IpDestination = Some value_types.Address
selector_type selectors.IpProtocol = Some value_types.Protocol
selector_type selectors.MetaProtocol = Some value_types.Protocol
selector_type selectors.IpTtl = None
selector_type selectors.IpLength = None
selector_type selectors.MetaLength = None
selector_type selectors.TcpSource = Some value_types.Service
selector_type selectors.TcpDestination = Some value_types.Service
selector_type selectors.UdpSource = Some value_types.Service
selector_type selectors.UdpDestination = Some value_types.Service
selector_type selectors.TransportSource = Some value_types.Service
selector_type selectors.TransportDestination = Some value_types.Service
selector_type selectors.TcpFlags = Some value_types.TcpFlag
selector_type selectors.IcmpType = Some value_types.IcmpType
selector_type selectors.InputName = Some value_types.InterfaceName
selector_type selectors.OutputName = Some value_types.InterfaceName
selector_type selectors.InputIndex = Some value_types.InterfaceIndex
selector_type selectors.OutputIndex = Some value_types.InterfaceIndex
selector_type selectors.MetaMark = Some value_types.Mark
selector_type selectors.CtMark = Some value_types.Mark
selector_type selectors.MetaFamily = Some value_types.Family
selector_type selectors.CtState = Some value_types.CtState
selector_type selectors.CtDirection = Some value_types.CtDirection
selector_type selectors.CtStatus = Some value_types.CtStatus

-- The width in bits of what a selector reads (the same sections).
abbrev pub selector_width : Selector → ℕ
selector_width selectors.IpSource = 32
selector_width selectors.IpDestination = 32
selector_width selectors.IpProtocol = 8
selector_width selectors.MetaProtocol = 8
selector_width selectors.IpTtl = 8
selector_width selectors.IpLength = 16
selector_width selectors.MetaLength = 32
selector_width selectors.TcpSource = 16
selector_width selectors.TcpDestination = 16
selector_width selectors.UdpSource = 16
selector_width selectors.UdpDestination = 16
selector_width selectors.TransportSource = 16
selector_width selectors.TransportDestination = 16
selector_width selectors.TcpFlags = 8
selector_width selectors.IcmpType = 8
selector_width selectors.InputName = 128
selector_width selectors.OutputName = 128
selector_width selectors.InputIndex = 32
selector_width selectors.OutputIndex = 32
selector_width selectors.MetaMark = 32
selector_width selectors.CtMark = 32
selector_width selectors.MetaFamily = 8
selector_width selectors.CtState = 32
selector_width selectors.CtDirection = 8
selector_width selectors.CtStatus = 32

-- ---- bits

-- The bits of `ct state` (NF_CT_STATE_INVALID_BIT, NF_CT_STATE_BIT and NF_CT_STATE_UNTRACKED_BIT of
-- linux/netfilter/nf_conntrack_common.h).
abbrev pub STATE_INVALID : ℕ
STATE_INVALID = 1

abbrev pub STATE_ESTABLISHED : ℕ
STATE_ESTABLISHED = 2

abbrev pub STATE_RELATED : ℕ
STATE_RELATED = 4

abbrev pub STATE_NEW : ℕ
STATE_NEW = 8

abbrev pub STATE_UNTRACKED : ℕ
STATE_UNTRACKED = 64

-- The bits of `ct status` (IPS_SEEN_REPLY, IPS_SRC_NAT and IPS_DST_NAT of the same header).
abbrev pub STATUS_SEEN_REPLY : ℕ
STATUS_SEEN_REPLY = 2

abbrev pub STATUS_SNAT : ℕ
STATUS_SNAT = 16

abbrev pub STATUS_DNAT : ℕ
STATUS_DNAT = 32

-- ---- symbolic constants

-- The symbolic constants of a data type (`nft describe TYPE`; services: (own), six of /etc/services).
abbrev pub words_of : ValueType → List (List ℕ × ℕ)
words_of value_types.Address = []
words_of value_types.Protocol =
    (codes "icmp", 1)
    ∷ (codes "igmp", 2)
    ∷ (codes "tcp", 6)
    ∷ (codes "udp", 17)
    ∷ (codes "gre", 47)
    ∷ (codes "esp", 50)
    ∷ (codes "ah", 51)
    ∷ (codes "ipv6-icmp", 58)
    ∷ (codes "sctp", 132)
    ∷ []
words_of value_types.Service =
    (codes "ssh", 22)
    ∷ (codes "smtp", 25)
    ∷ (codes "domain", 53)
    ∷ (codes "http", 80)
    ∷ (codes "ntp", 123)
    ∷ (codes "https", 443)
    ∷ []
words_of value_types.TcpFlag =
    (codes "fin", 1)
    ∷ (codes "syn", 2)
    ∷ (codes "rst", 4)
    ∷ (codes "psh", 8)
    ∷ (codes "ack", 16)
    ∷ (codes "urg", 32)
    ∷ (codes "ecn", 64)
    ∷ (codes "cwr", 128)
    ∷ []
words_of value_types.IcmpType =
    (codes "echo-reply", 0)
    ∷ (codes "destination-unreachable", 3)
    ∷ (codes "source-quench", 4)
    ∷ (codes "redirect", 5)
    ∷ (codes "echo-request", 8)
    ∷ (codes "router-advertisement", 9)
    ∷ (codes "router-solicitation", 10)
    ∷ (codes "time-exceeded", 11)
    ∷ (codes "parameter-problem", 12)
    ∷ (codes "timestamp-request", 13)
    ∷ (codes "timestamp-reply", 14)
    ∷ (codes "info-request", 15)
    ∷ (codes "info-reply", 16)
    ∷ (codes "address-mask-request", 17)
    ∷ (codes "address-mask-reply", 18)
    ∷ []
words_of value_types.InterfaceName = []
words_of value_types.InterfaceIndex = []
words_of value_types.Mark = []
words_of value_types.Family = (codes "ipv4", 2) ∷ (codes "ipv6", 10) ∷ []
words_of value_types.CtState =
    (codes "invalid", STATE_INVALID)
    ∷ (codes "established", STATE_ESTABLISHED)
    ∷ (codes "related", STATE_RELATED)
    ∷ (codes "new", STATE_NEW)
    ∷ (codes "untracked", STATE_UNTRACKED)
    ∷ []
words_of value_types.CtDirection = (codes "original", 0) ∷ (codes "reply", 1) ∷ []
words_of value_types.CtStatus =
    (codes "seen-reply", STATUS_SEEN_REPLY)
    ∷ (codes "snat", STATUS_SNAT)
    ∷ (codes "dnat", STATUS_DNAT)
    ∷ []

-- The number of a symbolic constant.
abbrev pub number_in : List (List ℕ × ℕ) → List ℕ → Option ℕ
number_in = entry_in
