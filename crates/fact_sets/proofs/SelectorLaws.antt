-- What each selector reads of a packet's bits.
use Rattle.std.proofs.Common.{◌≡◌, ◌∙◌, ◌^◌, ◌==◌, ◌&&◌, nat_le, ℕ, ◌<◌, ◌≤◌, ◌+◌, Bool, true, false}
use Rattle.std.proofs.Common.{cond, refl, ap, arith, Some, None, sym, subst, lit<, if◌then◌else◌, IfSome}
use Rattle.std.proofs.lemmas.Bool.Decides.{nat_tests}
use Rattle.std.proofs.Math.Nat.{pow-le-pow_right}
use Rattle.std.specs.Option.{option_map}
use Rattle.packet_sets.specs.declared.fields.Field.{Field}
use Rattle.packet_sets.specs.Sets.{field_value}
use Rattle.rule_meaning.specs.declared.facts.CtFacts.TheVariants as ct
use Rattle.ip_headers.specs.declared.tuple.Direction.TheVariants as directions
use Rattle.nft_tree.specs.declared.selector.Selector.{Selector}
use Rattle.nft_tree.specs.declared.selector.Selector.TheVariants as selectors
use Rattle.nft_tree.specs.ValueTypes.{selector_width}
use Rattle.ip_headers.specs.Transport.{source_port_of, destination_port_of, tcp_flags_of, icmp_type_of}
use Rattle.rule_meaning.specs.Matches.{tests}
use Rattle.rule_meaning.specs.Selectors.{ct_state, direction_number, of_connection, status_bits, tcp_destination, tcp_source}
use Rattle.rule_meaning.specs.Selectors.{udp_destination, udp_source, value}
use Rattle.fact_sets.specs.declared.readings.Reader.{Reader}
use Rattle.fact_sets.specs.declared.written.MarkSource.{MarkSource}
use Rattle.fact_sets.specs.declared.written.MarkSource.TheVariants as sources
use Rattle.fact_sets.specs.declared.written.Written.{Written}
use Rattle.fact_sets.specs.Cases.{seen}
use Rattle.fact_sets.specs.Facts.{DESTINATION, DESTINATION_PORT, FLAGS, HAS_OUTPUT, DIRECTION, ICMP_TYPE, INPUT, LENGTH}
use Rattle.fact_sets.specs.Facts.{OUTPUT, PROTOCOL, SOURCE, SOURCE_PORT, STATUS, TRACKING, TRANSPORT, TTL, ct_at}
use Rattle.fact_sets.specs.Facts.{facts_of, interface_at, mark_number, number_in, state_at, transport_at}
use Rattle.fact_sets.specs.steps.Readings.{IsField, IsNarrow, field_of, is_present, mark_field, mark_meant, state_meant, status_meant, value_meant}
use Rattle.fact_sets.proofs.FieldNumbers.{value_less}

-- ---- by the codes of transports and states

tcp-source : (n : ℕ) (f : ℕ → Bool) → tcp_source (transport_at n f) ≡ cond (n == 1) (Some (number_in SOURCE_PORT f)) None
tcp-source n f = grind (arith, nat_tests)

tcp-destination : (n : ℕ) (f : ℕ → Bool) → tcp_destination (transport_at n f) ≡ cond (n == 1) (Some (number_in DESTINATION_PORT f)) None
tcp-destination n f = grind (arith, nat_tests)

flags : (n : ℕ) (f : ℕ → Bool) → tcp_flags_of (transport_at n f) ≡ cond (n == 1) (Some (number_in FLAGS f)) None
flags n f = grind (arith, nat_tests)

udp-source : (n : ℕ) (f : ℕ → Bool) → udp_source (transport_at n f) ≡ cond (n == 2) (Some (number_in SOURCE_PORT f)) None
udp-source n f = grind (arith, nat_tests)

udp-destination : (n : ℕ) (f : ℕ → Bool) → udp_destination (transport_at n f) ≡ cond (n == 2) (Some (number_in DESTINATION_PORT f)) None
udp-destination n f = grind (arith, nat_tests)

source-port : (n : ℕ) (f : ℕ → Bool) → source_port_of (transport_at n f) ≡ cond (nat_le 1 n && nat_le n 2) (Some (number_in SOURCE_PORT f)) None
source-port n f = grind (arith, nat_tests)

destination-port : (n : ℕ) (f : ℕ → Bool) → destination_port_of (transport_at n f) ≡ cond (nat_le 1 n && nat_le n 2) (Some (number_in DESTINATION_PORT f)) None
destination-port n f = grind (arith, nat_tests)

icmp-type : (n : ℕ) (f : ℕ → Bool) → icmp_type_of (transport_at n f) ≡ cond (n == 3) (Some (number_in ICMP_TYPE f)) None
icmp-type n f = grind (arith, nat_tests)

state : (w : Written) (n : ℕ) (f : ℕ → Bool) → ct_state (ct_at w n f) ≡ cond (nat_le 2 n) (Some (state_meant n)) None
state w n f = grind (arith, nat_tests)

mark : (source : MarkSource) (f : ℕ → Bool) → mark_number source f ≡ mark_meant source (number_in (mark_field source) f)
mark sources.Packet f = refl
mark sources.Connection f = refl
mark (sources.Number n) f = refl

connection-mark : (w : Written) (n : ℕ) (f : ℕ → Bool) → of_connection (λ c. c.mark) (ct_at w n f) ≡ cond (nat_le 4 n) (Some (mark_number w.connection f)) None
connection-mark w n f = grind (arith, nat_tests)

direction : (w : Written) (n : ℕ) (f : ℕ → Bool) → of_connection (λ c. direction_number c.direction) (ct_at w n f)
    ≡ cond (nat_le 4 n) (Some (number_in DIRECTION f)) None
unfolding field_value
direction w n f = elim (f 26) as (λ b. of_connection (λ c. direction_number c.direction) (if n == 0 then cond w.untracked ct.Notrack ct.NotLookedUp
    else (if n == 1 then ct.Notrack else (if n == 2 then ct.Untracked else (if n == 3 then ct.Invalid
    else ct.Known (record {
      state = state_at n;
      direction = cond b directions.Reply directions.Original;
      mark = mark_number w.connection f;
      seen_reply = f 29;
      source_translated = f 28;
      destination_translated = f 27;
    }))))) ≡ cond (nat_le 4 n) (Some (cond b 1 0 + 0)) None) [
      | true ↦ grind (arith, nat_tests)
      | false ↦ grind (arith, nat_tests)
    ]

bits : (seen source destination : Bool) → cond seen 2 0 + cond source 16 0 + cond destination 32 0
    ≡ status_meant (cond destination 4 0 + (cond source 2 0 + (cond seen 1 0 + 0)))
bits true true true = refl
bits true true false = refl
bits true false true = refl
bits true false false = refl
bits false true true = refl
bits false true false = refl
bits false false true = refl
bits false false false = refl

status_at : (f : ℕ → Bool) → cond (f 29) 2 0 + cond (f 28) 16 0 + cond (f 27) 32 0 ≡ status_meant (number_in STATUS f)
unfolding field_value
status_at f = bits (f 29) (f 28) (f 27)

status : (w : Written) (n : ℕ) (f : ℕ → Bool) → of_connection status_bits (ct_at w n f) ≡ cond (nat_le 4 n) (Some (status_meant (number_in STATUS f))) None
status w n f = rw (← status_at f) (grind (arith, nat_tests))

-- ---- all selectors

pub reads : (r : Reader) (s : Selector) (f : ℕ → Bool) → value s (seen r f)
    ≡ cond (is_present s f) (Some (value_meant r s (number_in (field_of r.written s) f))) None
unfolding facts_of
reads r selectors.IpSource f = refl
reads r selectors.IpDestination f = refl
reads r selectors.IpProtocol f = refl
reads r selectors.MetaProtocol f = refl
reads r selectors.IpTtl f = refl
reads r selectors.IpLength f = refl
reads r selectors.MetaLength f = refl
reads r selectors.TcpSource f = tcp-source (number_in TRANSPORT f) f
reads r selectors.TcpDestination f = tcp-destination (number_in TRANSPORT f) f
reads r selectors.UdpSource f = udp-source (number_in TRANSPORT f) f
reads r selectors.UdpDestination f = udp-destination (number_in TRANSPORT f) f
reads r selectors.TransportSource f = source-port (number_in TRANSPORT f) f
reads r selectors.TransportDestination f = destination-port (number_in TRANSPORT f) f
reads r selectors.TcpFlags f = flags (number_in TRANSPORT f) f
reads r selectors.IcmpType f = icmp-type (number_in TRANSPORT f) f
reads r selectors.InputName f = refl
reads r selectors.OutputName f = elim (f HAS_OUTPUT) as (λ b. option_map (λ i. i.name) (cond b (Some (interface_at r.interfaces.now (number_in OUTPUT f))) None)
    ≡ cond b (Some (interface_at r.interfaces.now (number_in OUTPUT f)).name) None) [ true ↦ refl | false ↦ refl ]
reads r selectors.InputIndex f = refl
reads r selectors.OutputIndex f = elim (f HAS_OUTPUT) as (λ b. option_map (λ i. i.index) (cond b (Some (interface_at r.interfaces.now
    (number_in OUTPUT f))) None)
    ≡ cond b (Some (interface_at r.interfaces.now (number_in OUTPUT f)).index) None) [ true ↦ refl | false ↦ refl ]
reads r selectors.MetaMark f = ap Some (mark r.written.packet f)
reads r selectors.CtMark f = connection-mark r.written (number_in TRACKING f) f ∙ ap (λ x. cond (nat_le 4 (number_in TRACKING f)) (Some x) None)
    (mark r.written.connection f)
reads r selectors.MetaFamily f = refl
reads r selectors.CtState f = state r.written (number_in TRACKING f) f
reads r selectors.CtDirection f = direction r.written (number_in TRACKING f) f
reads r selectors.CtStatus f = status r.written (number_in TRACKING f) f

tests-there : (b : Bool) (n : ℕ) (t : ℕ → Bool) → b && t n ≡ tests (cond b (Some n) None) t
tests-there b n t = elim b as (λ v. v && t n ≡ tests (cond v (Some n) None) t) [ true ↦ refl | false ↦ refl ]

-- a selector's value passes where it has one, and its field's number stands for one that passes
pub passing_is : (r : Reader) (s : Selector) (t : ℕ → Bool) (field : Field) (meaning : ℕ → ℕ) (f : ℕ → Bool) → field ≡ field_of r.written s
    → ((n : ℕ) → meaning n ≡ value_meant r s n) → is_present s f && t (meaning (number_in field f)) ≡ tests (value s (seen r f)) t
passing_is r s t field meaning f is means =
    rw (is, means) (tests-there (is_present s f) (value_meant r s (number_in (field_of r.written s) f)) t)
    ∙ ap (λ o. tests o t) (sym (reads r s f))

mark-is_field : (source : MarkSource) → IsField (mark_field source)
mark-is_field sources.Packet = record { first = omega arith; width = omega arith }
mark-is_field sources.Connection = record { first = omega arith; width = omega arith }
mark-is_field (sources.Number n) = record { first = omega arith; width = omega arith }

pub is_field : (w : Written) (s : Selector) → IsField (field_of w s)
is_field w selectors.IpSource = record { first = omega arith; width = omega arith }
is_field w selectors.IpDestination = record { first = omega arith; width = omega arith }
is_field w selectors.IpProtocol = record { first = omega arith; width = omega arith }
is_field w selectors.MetaProtocol = record { first = omega arith; width = omega arith }
is_field w selectors.IpTtl = record { first = omega arith; width = omega arith }
is_field w selectors.IpLength = record { first = omega arith; width = omega arith }
is_field w selectors.MetaLength = record { first = omega arith; width = omega arith }
is_field w selectors.TcpSource = record { first = omega arith; width = omega arith }
is_field w selectors.TcpDestination = record { first = omega arith; width = omega arith }
is_field w selectors.UdpSource = record { first = omega arith; width = omega arith }
is_field w selectors.UdpDestination = record { first = omega arith; width = omega arith }
is_field w selectors.TransportSource = record { first = omega arith; width = omega arith }
is_field w selectors.TransportDestination = record { first = omega arith; width = omega arith }
is_field w selectors.TcpFlags = record { first = omega arith; width = omega arith }
is_field w selectors.IcmpType = record { first = omega arith; width = omega arith }
is_field w selectors.InputName = record { first = omega arith; width = omega arith }
is_field w selectors.OutputName = record { first = omega arith; width = omega arith }
is_field w selectors.InputIndex = record { first = omega arith; width = omega arith }
is_field w selectors.OutputIndex = record { first = omega arith; width = omega arith }
is_field w selectors.MetaMark = mark-is_field w.packet
is_field w selectors.CtMark = mark-is_field w.connection
is_field w selectors.MetaFamily = record { first = omega arith; width = omega arith }
is_field w selectors.CtState = record { first = omega arith; width = omega arith }
is_field w selectors.CtDirection = record { first = omega arith; width = omega arith }
is_field w selectors.CtStatus = record { first = omega arith; width = omega arith }

-- ---- values within the width of their type

field-less : (field : Field) (width : ℕ) (f : ℕ → Bool) → field.width ≤ width → number_in field f < 2 ^ width
field-less field width f h =
    let l = value_less field.width field.first f in
    let p : 2 ^ field.width ≤ 2 ^ width = pow-le-pow_right (lit< tt) h in omega (arith, l, p)

state-less : (n : ℕ) → state_meant n < 2 ^ 32
state-less n = grind (arith, nat_tests)

status-less : (f : ℕ → Bool) → status_meant (number_in STATUS f) < 2 ^ 32
status-less f =
    let l : number_in STATUS f < 2 ^ 3 = value_less 3 27 f in
    omega arith

value_fits : (r : Reader) (s : Selector) (f : ℕ → Bool) → IsNarrow r → value_meant r s (number_in (field_of r.written s) f) < 2 ^ selector_width s
value_fits r selectors.IpSource f h = field-less SOURCE 32 f (omega arith)
value_fits r selectors.IpDestination f h = field-less DESTINATION 32 f (omega arith)
value_fits r selectors.IpProtocol f h = field-less PROTOCOL 8 f (omega arith)
value_fits r selectors.MetaProtocol f h = field-less PROTOCOL 8 f (omega arith)
value_fits r selectors.IpTtl f h = field-less TTL 8 f (omega arith)
value_fits r selectors.IpLength f h = field-less LENGTH 16 f (omega arith)
value_fits r selectors.MetaLength f h = field-less LENGTH 32 f (omega arith)
value_fits r selectors.TcpSource f h = field-less SOURCE_PORT 16 f (omega arith)
value_fits r selectors.TcpDestination f h = field-less DESTINATION_PORT 16 f (omega arith)
value_fits r selectors.UdpSource f h = field-less SOURCE_PORT 16 f (omega arith)
value_fits r selectors.UdpDestination f h = field-less DESTINATION_PORT 16 f (omega arith)
value_fits r selectors.TransportSource f h = field-less SOURCE_PORT 16 f (omega arith)
value_fits r selectors.TransportDestination f h = field-less DESTINATION_PORT 16 f (omega arith)
value_fits r selectors.TcpFlags f h = field-less FLAGS 8 f (omega arith)
value_fits r selectors.IcmpType f h = field-less ICMP_TYPE 8 f (omega arith)
value_fits r selectors.CtDirection f h = field-less DIRECTION 8 f (omega arith)
value_fits r selectors.InputName f h = (h.interfaces (number_in INPUT f)).0
value_fits r selectors.OutputName f h = (h.interfaces (number_in OUTPUT f)).0
value_fits r selectors.InputIndex f h = (h.interfaces (number_in INPUT f)).1
value_fits r selectors.OutputIndex f h = (h.interfaces (number_in OUTPUT f)).1
value_fits r selectors.MetaMark f h = h.packet (number_in (mark_field r.written.packet) f) (field-less (mark_field r.written.packet) 32 f
    (mark-is_field r.written.packet).width)
value_fits r selectors.CtMark f h = h.connection (number_in (mark_field r.written.connection) f) (field-less (mark_field r.written.connection) 32 f
    (mark-is_field r.written.connection).width)
value_fits r selectors.MetaFamily f h = lit< tt
value_fits r selectors.CtState f h = state-less (number_in TRACKING f)
value_fits r selectors.CtStatus f h = status-less f

less-there : (b : Bool) (n k : ℕ) → n < k → IfSome (cond b (Some n) None) (λ x. x < k)
less-there b n k h = elim b as (λ v. IfSome (cond v (Some n) None) (λ x. x < k)) [ true ↦ h | false ↦ tt ]

pub fits : (r : Reader) (s : Selector) (f : ℕ → Bool) → IsNarrow r → IfSome (value s (seen r f)) (λ n. n < 2 ^ selector_width s)
fits r s f h = subst (λ o. IfSome o (λ n. n < 2 ^ selector_width s)) (sym (reads r s f)) (less-there (is_present s f)
    (value_meant r s (number_in (field_of r.written s) f)) (2 ^ selector_width s) (value_fits r s f h))
