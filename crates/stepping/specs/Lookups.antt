-- The connection look-up of a packet.
use Rattle.std.specs.Prelude.{ℕ, List, Option, Some, None}
use Rattle.ip_headers.specs.declared.transport.Transport.{Transport}
use Rattle.ip_headers.specs.declared.transport.Transport.TheVariants as transports
use Rattle.ip_headers.specs.Header.{transport_of}
use Rattle.ip_headers.specs.Tuple.{inner_tuple_of, inverse, tuple_of}
use Rattle.ip_headers.specs.declared.tuple.Tuple.{Tuple}
use Rattle.conntrack.specs.declared.belonging.Belonging.{Belonging}
use Rattle.conntrack.specs.declared.belonging.Belonging.TheVariants.{NotFound}
use Rattle.conntrack.specs.declared.connection.Flags.{Flags}
use Rattle.conntrack.specs.declared.connection.ConntrackEntry.{ConntrackEntry}
use Rattle.conntrack.specs.Phases.{flags_of, no_flags}
use Rattle.conntrack.specs.ConntrackEntry.{belongs_in}
use Rattle.conntrack.specs.Updates.{after_end}
use Rattle.rule_meaning.specs.declared.facts.CtFacts.{CtFacts}
use Rattle.rule_meaning.specs.declared.facts.CtFacts.TheVariants.{Notrack}
use Rattle.translation.specs.declared.ct_info.CtInfo.{CtInfo}
use Rattle.translation.specs.declared.ct_info.CtInfo.TheVariants.{Untracked}
use Rattle.translation.specs.CtInfos.{error_ct_info, ct_info_by}

-- ---- what a packet belongs to

-- only TCP has flags (RFC 9293, section 3.1)
abbrev pub flags_in : Transport → Flags
flags_in (transports.Tcp source destination bits) = flags_of bits
flags_in _ = no_flags

-- by its tuple as received; a packet without one belongs to no connection
abbrev pub belonging_by_tuple : List ConntrackEntry → Flags → Option Tuple → Belonging
belonging_by_tuple live flags None = NotFound
belonging_by_tuple live flags (Some t) = belongs_in live t flags

abbrev pub belonging_of : List ConntrackEntry → List ℕ → Belonging
belonging_of live p = belonging_by_tuple live (flags_in (transport_of p)) (tuple_of p)

-- an ICMP error belongs where the inverse of its embedded tuple does (RFC 5508, section 4.2), without flags
abbrev pub error_belonging : List ConntrackEntry → Option Tuple → Belonging
error_belonging live None = NotFound
error_belonging live (Some t) = belongs_in live (inverse t) no_flags

-- ---- its state

-- by the look-up of its tuple; a packet without one may be an ICMP error
abbrev pub ct_info_by_tuple : List ConntrackEntry → List ℕ → Option Tuple → CtInfo
ct_info_by_tuple live p (Some t) = ct_info_by t (belonging_of live p)
ct_info_by_tuple live p None = error_ct_info (error_belonging live (inner_tuple_of p))

-- after `notrack` nothing is looked up (nft(8), NOTRACK STATEMENT)
abbrev pub looked_up_info : CtFacts → List ConntrackEntry → List ℕ → CtInfo
looked_up_info Notrack live p = Untracked
looked_up_info _ live p = ct_info_by_tuple live p (tuple_of p)

-- the tuple with which a packet in this state was looked up
abbrev pub lookup_tuple_of : CtInfo → List ℕ → Option Tuple
lookup_tuple_of Untracked p = None
lookup_tuple_of _ p = tuple_of p

-- ---- the other connections

-- the live connections after the look-up: a lone SYN removes the closing connection that it belongs to, even
-- if rules drop it (own; netfilter's nf_conntrack_tcp_packet removes it at the look-up too)
abbrev pub others_in : List ConntrackEntry → List ℕ → List ConntrackEntry
others_in live p = after_end (belonging_of live p) live

-- an untracked packet removes none
abbrev pub others_beside : CtInfo → List ConntrackEntry → List ℕ → List ConntrackEntry
others_beside Untracked live p = live
others_beside _ live p = others_in live p
