-- What the tests on a header establish.
use Rattle.std.proofs.Common.{◌≡◌, ◌≢◌, ℕ, ◌<◌, ◌≤◌, List, length, Option, Some, None, Bool, true, false, refl, ◌∙◌, arith}
use Rattle.std.specs.Prelude.{◌==◌, nat_lt, not, if◌then◌else◌}
use Rattle.std.proofs.lemmas.Bool.{le-ltb, lt-ltb, eq-eqb, ne_eqb}
use Rattle.std.proofs.lemmas.Grind.{common_steps}
use Rattle.ip_headers.specs.declared.view.HeaderFault.{HeaderFault}
use Rattle.ip_headers.specs.declared.view.HeaderFault.TheVariants.{Short, Version, HeaderLength, Length, Truncated}
use Rattle.ip_headers.specs.declared.view.HeaderFault.TheVariants.{Checksum, Fragment, Transport}
use Rattle.ip_headers.specs.Sum.{ones_sum_of}
use Rattle.ip_headers.specs.Transport.{transport_is_malformed}
use Rattle.ip_headers.specs.Passing.{Passes, PassesHeader}
use Rattle.ip_headers.specs.Header.{header, header_len, total_len, version, protocol, is_fragment, fault_of, packet_of, payload_of}

-- ---- the tests by their results

abbrev first : Bool → Bool → Bool → Bool → Bool → Bool → Bool → Bool → Option HeaderFault
first a b c d e f g h =
    if a then Some Short else (if b then Some Version else (if c then Some HeaderLength else (if d then Some Length
    else (if e then Some Truncated else (if f then Some Checksum
    else (if g then Some Fragment else (if h then Some Transport else None)))))))

last_is : (a b c d e f g h : Bool) → first a b c d e f g h ≡ None → h ≡ false
last_is a b c d e f g false none = refl
last_is true b c d e f g true none = cc
last_is false true c d e f g true none = cc
last_is false false true d e f g true none = cc
last_is false false false true e f g true none = cc
last_is false false false false true f g true none = cc
last_is false false false false false true g true none = cc
last_is false false false false false false true true none = cc
last_is false false false false false false false true none = cc

pub passes : (p : List ℕ) → fault_of p ≡ None → Passes p
passes p none = record {
  head = record {
    long = grind (arith, none);
    head = grind (arith, none);
    whole = grind (arith, none);
    four = grind (arith, none);
    sum = grind (arith, none);
  };
  unbroken = grind (arith, none);
  transport = last_is (nat_lt (length p) 20) (not (version p == 4)) (nat_lt (header_len p) 20)
      (nat_lt (total_len p) (header_len p)) (nat_lt (length p) (total_len p)) (not (ones_sum_of (header p) == 65535))
      (is_fragment p) (transport_is_malformed (protocol p) (payload_of p)) none;
}

pub short : (p : List ℕ) → length p < 20 → fault_of p ≡ Some Short
short p few = rw (lt-ltb _ _ few) refl

pub other : (p : List ℕ) → 20 ≤ length p → version p ≢ 4 → fault_of p ≡ Some Version
other p long differs = rw (le-ltb _ _ long, ne_eqb _ _ differs) refl

pub short_header : (p : List ℕ) → 20 ≤ length p → version p ≡ 4 → header_len p < 20 → fault_of p ≡ Some HeaderLength
short_header p long four few = rw (le-ltb _ _ long, eq-eqb _ _ four, lt-ltb _ _ few) refl

-- what passed the first three tests is decided by the others
abbrev judged : List ℕ → Option HeaderFault
judged p =
    if nat_lt (total_len p) (header_len p) then Some Length else (if nat_lt (length p) (total_len p) then Some Truncated
    else (if not (ones_sum_of (header p) == 65535) then Some Checksum else (if is_fragment p then Some Fragment
    else (if transport_is_malformed (protocol p) (payload_of p) then Some Transport else None))))

by_others : (p : List ℕ) → 20 ≤ length p → version p ≡ 4 → 20 ≤ header_len p → fault_of p ≡ judged p
by_others p long four head = grind arith

pub too_small : (p : List ℕ) → 20 ≤ length p → version p ≡ 4 → 20 ≤ header_len p → total_len p < header_len p → fault_of p ≡ Some Length
too_small p long four head small = by_others p long four head ∙ rw (lt-ltb _ _ small) refl

pub cut : (p : List ℕ) → 20 ≤ length p → version p ≡ 4 → 20 ≤ header_len p → header_len p ≤ total_len p
    → length p < total_len p → fault_of p ≡ Some Truncated
cut p long four head fits short = by_others p long four head ∙ rw (le-ltb _ _ fits, lt-ltb _ _ short) refl

pub damaged : (p : List ℕ) → 20 ≤ length p → version p ≡ 4 → 20 ≤ header_len p → header_len p ≤ total_len p
    → total_len p ≤ length p → ones_sum_of (header p) ≢ 65535 → fault_of p ≡ Some Checksum
damaged p long four head fits whole wrong = by_others p long four head ∙ rw (le-ltb _ _ fits, le-ltb _ _ whole, ne_eqb _ _ wrong) refl

by_last_two : (p : List ℕ) → PassesHeader p
    → fault_of p ≡ (if is_fragment p then Some Fragment
    else (if transport_is_malformed (protocol p) (payload_of p) then Some Transport else None))
by_last_two p ok = by_others p (omega (arith, ok.long, ok.head, ok.whole)) ok.four ok.long
    ∙ rw (le-ltb _ _ ok.head, le-ltb _ _ ok.whole, eq-eqb _ _ ok.sum) refl

pub fault_free : (p : List ℕ) → Passes p → fault_of p ≡ None
fault_free p ok = by_last_two p ok.head ∙ rw (ok.unbroken, ok.transport) refl

pub broken : (p : List ℕ) → PassesHeader p → is_fragment p ≡ true → fault_of p ≡ Some Fragment
broken p ok is = by_last_two p ok ∙ rw is refl

pub refused : (p : List ℕ) → PassesHeader p → is_fragment p ≡ false
    → transport_is_malformed (protocol p) (payload_of p) ≡ true → fault_of p ≡ Some Transport
refused p ok unbroken wrong = by_last_two p ok ∙ rw (unbroken, wrong) refl

-- ---- a packet without the bytes past it passes as well

pub total_len-packet : (p : List ℕ) → PassesHeader p → total_len (packet_of p) ≡ total_len p
total_len-packet p ok = grind (arith, common_steps, ok.long, ok.head)

pub header_len-packet : (p : List ℕ) → PassesHeader p → header_len (packet_of p) ≡ header_len p
header_len-packet p ok = grind (arith, common_steps, ok.long, ok.head)

pub packet-packet : (p : List ℕ) → PassesHeader p → packet_of (packet_of p) ≡ packet_of p
packet-packet p ok = rw (total_len-packet p ok) (grind (arith, common_steps, ok.whole))

pub packet_passes : (p : List ℕ) → Passes p → Passes (packet_of p)
packet_passes p ok = grind (arith, ok.head, common_steps, ok.unbroken, header_len-packet, packet-packet, ok.transport)

-- ---- the length of a packet that passes

pub long_enough : (p : List ℕ) → fault_of p ≡ None → 20 ≤ length p
long_enough p none = let ok = (passes p none).head in omega (arith, ok.long, ok.head, ok.whole)
