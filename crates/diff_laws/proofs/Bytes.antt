-- What bytes hold of a packet: numbers that fit their fields, and the header of the packet's protocol.
use Rattle.std.specs.Prelude.{◌==◌, All, IfSome}
use Rattle.std.proofs.Common.{◌≡◌, ◌∙◌, ℕ, ◌+◌, ◌*◌, ◌^◌, ◌<◌, ◌≤◌, Bool, true, false, not, if◌then◌else◌, List, length, get_or, take, Option, Some, None, refl, ap, subst, sym, arith, lit<, inl, inr, nat_lt}
use Rattle.std.proofs.lemmas.Bool.{cases_lt}
use Rattle.std.proofs.lemmas.Bool.Decides.{nat_tests}
use Rattle.std.proofs.lemmas.List.{get_or_past, get_or-take}
use Rattle.std.proofs.lemmas.List.Elements.{All-drop, All-take}
use Rattle.ip_headers.specs.declared.view.HeaderFault.{HeaderFault}
use Rattle.ip_headers.specs.declared.view.HeaderFault.TheVariants.{HeaderLength, Length, Short, Version}
use Rattle.ip_headers.specs.declared.transport.Transport.{Transport}
use Rattle.ip_headers.specs.declared.transport.Transport.TheVariants.{Tcp, Udp, Icmp, Other}
use Rattle.ip_headers.specs.declared.tuple.Kind.{Kind}
use Rattle.ip_headers.specs.declared.tuple.Kind.TheVariants as kinds
use Rattle.ip_headers.specs.Bytes.{byte_at, u16_at, u32_at}
use Rattle.ip_headers.specs.Header.{destination, fault_of, header_len, packet_of, payload_of, protocol, source, total_len, version}
use Rattle.ip_headers.specs.Transport.{destination_port, icmp_type, source_port, tcp_flags, transport_in}
use Rattle.ip_headers.specs.Tuple.{kind_of, port_from, port_to, tuple_of, tuple_with}
use Rattle.fact_sets.specs.Boxes.{IsTransport}
use Rattle.diff_laws.proofs.Each.{some_always, some_map}
use Rattle.diff_laws.proofs.Fits.{TupleFits}

abbrev pub Bytes : List ℕ → Type 0
Bytes bytes = All (λ b. b < 256) bytes

pub byte_fits : (bytes : List ℕ) → Bytes bytes → (i : ℕ) → byte_at bytes i < 256
byte_fits bytes h i = elim (cases_lt i (length bytes)) as (λ x. get_or bytes i 0 < 256) [
  | inl l ↦ h i 0 l
  | inr g ↦ subst (λ n. n < 256) (sym (get_or_past bytes i 0 g)) (lit< tt)
]

word_from : (a b : ℕ) → a < 256 → b < 256 → a * 256 + b < 65536
word_from a b h k = omega arith

long_from : (a b : ℕ) → a < 65536 → b < 65536 → a * 65536 + b < 4294967296
long_from a b h k = omega arith

pub u16_fits : (bytes : List ℕ) → Bytes bytes → (i : ℕ) → u16_at bytes i < 2 ^ 16
u16_fits bytes h i = word_from (byte_at bytes i) (byte_at bytes (i + 1)) (byte_fits bytes h i) (byte_fits bytes h (i + 1))

pub u32_fits : (bytes : List ℕ) → Bytes bytes → (i : ℕ) → u32_at bytes i < 2 ^ 32
u32_fits bytes h i = long_from (u16_at bytes i) (u16_at bytes (i + 2)) (u16_fits bytes h i) (u16_fits bytes h (i + 2))

pub payload_bytes : (p : List ℕ) → Bytes p → Bytes (payload_of p)
payload_bytes p h = All-drop (λ b. b < 256) (header_len p) (packet_of p) (All-take (λ b. b < 256) (total_len p) p h)

-- ---- tuples

from_fits : (kind : Kind) (payload : List ℕ) → Bytes payload → port_from kind payload < 2 ^ 16
from_fits kinds.Tcp payload h = u16_fits payload h 0
from_fits kinds.Udp payload h = u16_fits payload h 0
from_fits kinds.EchoRequest payload h = u16_fits payload h 4
from_fits kinds.EchoReply payload h = lit< tt
from_fits (kinds.Other n) payload h = lit< tt

to_fits : (kind : Kind) (payload : List ℕ) → Bytes payload → port_to kind payload < 2 ^ 16
to_fits kinds.Tcp payload h = u16_fits payload h 2
to_fits kinds.Udp payload h = u16_fits payload h 2
to_fits kinds.EchoRequest payload h = lit< tt
to_fits kinds.EchoReply payload h = u16_fits payload h 4
to_fits (kinds.Other n) payload h = lit< tt

pub tuple_fits : (p : List ℕ) → Bytes p → IfSome (tuple_of p) TupleFits
tuple_fits p h =
    let payload = payload_of p in
    let bytes : Bytes payload = payload_bytes p h in
    some_map (λ (kind : Kind). Unit {0}) TupleFits (λ kind. tuple_with kind p payload)
    (λ kind u. ((u32_fits p h 12, from_fits kind payload bytes), (u32_fits p h 16, to_fits kind payload bytes)))
    (kind_of (protocol p) payload) (some_always (λ (kind : Kind). Unit {0}) (λ kind. tt) (kind_of (protocol p) payload))

-- ---- transport headers

-- the transport header is that of the protocol
abbrev pub IsHeaderOf : ℕ → Transport → Type 0
IsHeaderOf n (Tcp source destination flags) = n ≡ 6
IsHeaderOf n (Udp source destination) = n ≡ 17
IsHeaderOf n (Icmp message) = n ≡ 1
IsHeaderOf n Other = ((n == 6) ≡ false) × ((n == 17) ≡ false) × ((n == 1) ≡ false)

is_number : (n k : ℕ) → (n == k) ≡ true → n ≡ k
is_number n k e = grind (arith, nat_tests)

header_by : (n : ℕ) (payload : List ℕ) (six seventeen one : Bool) → (n == 6) ≡ six → (n == 17) ≡ seventeen → (n == 1) ≡ one
    → IsHeaderOf n (if six then Tcp (source_port payload) (destination_port payload) (tcp_flags payload)
    else (if seventeen then Udp (source_port payload) (destination_port payload) else (if one then Icmp (icmp_type payload) else Other)))
header_by n payload true seventeen one e f g = is_number n 6 e
header_by n payload false true one e f g = is_number n 17 f
header_by n payload false false true e f g = is_number n 1 g
header_by n payload false false false e f g = (e, f, g)

pub header_is : (n : ℕ) (payload : List ℕ) → IsHeaderOf n (transport_in n payload)
header_is n payload = header_by n payload (n == 6) (n == 17) (n == 1) refl refl refl

transport_by : (payload : List ℕ) (six seventeen one : Bool) → Bytes payload
    → IsTransport (if six then Tcp (source_port payload) (destination_port payload) (tcp_flags payload)
    else (if seventeen then Udp (source_port payload) (destination_port payload) else (if one then Icmp (icmp_type payload) else Other)))
transport_by payload true seventeen one h = (u16_fits payload h 0, u16_fits payload h 2, byte_fits payload h 13)
transport_by payload false true one h = (u16_fits payload h 0, u16_fits payload h 2)
transport_by payload false false true h = byte_fits payload h 0
transport_by payload false false false h = tt

pub transport_fits : (n : ℕ) (payload : List ℕ) → Bytes payload → IsTransport (transport_in n payload)
transport_fits n payload h = transport_by payload (n == 6) (n == 17) (n == 1) h

-- ---- lengths

passed : (a b c d : Bool) (w x y z : HeaderFault) (o : Option HeaderFault)
    → (if a then Some w else (if b then Some x else (if c then Some y else (if d then Some z else o)))) ≡ None → (c ≡ false) × (d ≡ false)
passed true b c d w x y z o e = absurd cc
passed false true c d w x y z o e = absurd cc
passed false false true d w x y z o e = absurd cc
passed false false false true w x y z o e = absurd cc
passed false false false false w x y z o e = (refl, refl)

reaches : (a b : ℕ) → nat_lt a b ≡ false → b ≤ a
reaches a b e = grind (arith, nat_tests)

at_least : (a b c : ℕ) → b ≤ a → a ≤ c → b ≤ c
at_least a b c h k = omega arith

pub length_fits : (bytes : List ℕ) → fault_of bytes ≡ None → 20 ≤ total_len bytes
length_fits bytes e =
    let both : (nat_lt (header_len bytes) 20 ≡ false) × (nat_lt (total_len bytes) (header_len bytes) ≡ false) =
    passed (nat_lt (length bytes) 20) (not (version bytes == 4)) (nat_lt (header_len bytes) 20) (nat_lt (total_len bytes) (header_len bytes))
    Short Version HeaderLength Length _ e in
    at_least (header_len bytes) 20 (total_len bytes) (reaches (header_len bytes) 20 both.0) (reaches (total_len bytes) (header_len bytes) both.1)

-- the packet at the front has the record's total length
pub total_kept : (bytes : List ℕ) → 20 ≤ total_len bytes → total_len (packet_of bytes) ≡ total_len bytes
total_kept bytes h =
    let n = total_len bytes in
    ap (λ a. a * 256 + get_or (take n bytes) 3 0) (get_or-take n bytes 2 0 (omega arith))
    ∙ ap (λ b. get_or bytes 2 0 * 256 + b) (get_or-take n bytes 3 0 (omega arith))
