-- A rewritten packet passes the tests that the original passed, and keeps the error of its checksum.
use Rattle.rewrite.specs.Rewritten.{payload_in, header_in, write_if_some, pseudo_header_and_payload}
use Rattle.rewrite.specs.Rewritten.{replaced, update_transport_checksum, update_checksums, with_destination_address, with_numbers}
use Rattle.rewrite.specs.Rewritten.{with_source_address, with_ttl}
use Rattle.std.proofs.lemmas.Bool.{le-leb, cond_both}
use Rattle.rewrite.proofs.Checksums.{Shows, payload_shows, rest_shows, head_shows, pseudo, head_of, update_keeps_sum, udp_update_keeps_sum}
use Rattle.std.proofs.Common.{◌≡◌, ◌≢◌, ℕ, ◌+◌, ◌*◌, ◌%◌, ◌<◌, ◌≤◌, ◌⊎◌, inl, inr, Option, List, length, suc, get_or, refl, ap, ◌∙◌, arith, drop, take}
use Rattle.std.proofs.Common.{false, length-take, length-drop, sym, ◌-◌}
use Rattle.std.proofs.lemmas.List.{drop-set-lt, get_or-set_other, get_or-take, get_or-drop}
use Rattle.ip_headers.specs.Bytes.{u16_at, with_u16}
use Rattle.ip_headers.specs.Header.{payload_at, protocol_at, header_len, payload_of, protocol, total_len, header}
use Rattle.rewrite.specs.declared.change.Change.{Change}
use Rattle.rewrite.specs.declared.change.PortsOrIdentifier.{PortsOrIdentifier}
use Rattle.rewrite.specs.declared.change.PortsOrIdentifier.TheVariants.{Ports, Identifier}
use Rattle.rewrite.proofs.Words.{byte_apart, number_byte_apart, SameAt, carried_by, named_by, same_at, transport_by, AsLong, as_long, replaced_by}
use Rattle.rewrite.proofs.Words.{update_by, updated_by, still_ones, word_same}
use Rattle.rewrite.proofs.Datagrams.{by_protocol, is_icmp}
use Rattle.ip_headers.specs.Passing.{Passes}
use Rattle.ip_headers.specs.Transport.{transport_is_malformed}
use Rattle.rewrite.specs.steps.Fields.{HasFields}
use Rattle.ip_headers.specs.Sum.{words_sum}

-- ==== The rewritten packet, byte by byte; the list's elements may be any numbers.

-- ---- the steps

-- with another header
abbrev pub timed : List ℕ → Change → List ℕ
timed p change = write_if_some (with_ttl 0)
    (write_if_some (with_destination_address 0) (write_if_some (with_source_address 0) p change.source) change.destination) change.ttl

-- ---- bytes that a step keeps

pub named_byte : {A : Type 0} (write : List ℕ → A → List ℕ) (bytes : List ℕ) (o : Option A) (k : ℕ)
    → ((x : A) → get_or (write bytes x) k 0 ≡ get_or bytes k 0)
    → get_or (write_if_some write bytes o) k 0 ≡ get_or bytes k 0
named_byte write bytes o k same = named_by (SameAt k bytes) write bytes o same refl

pub timed_byte : (p : List ℕ) (change : Change) (k : ℕ) → k ≢ 8 → (k < 12) ⊎ (19 < k) → get_or (timed p change) k 0 ≡ get_or p k 0
timed_byte p change k other past = grind (arith, change.source, change.destination, named_byte, change.ttl, get_or-set_other, number_byte_apart)

-- ---- the header: its bytes but its checksum's are those of the datagram with another header

pub timed_payload : (p : List ℕ) (change : Change) → payload_at 0 (timed p change) ≡ payload_at 0 p
timed_payload p change = ap (λ b. 0 + b % 16 * 4) (timed_byte p change 0 (omega arith) (inl (omega arith)))

pub timed_protocol : (p : List ℕ) (change : Change) → protocol_at 0 (timed p change) ≡ protocol_at 0 p
timed_protocol p change = timed_byte p change 9 (omega arith) (inl (omega arith))

abbrev pub sent : List ℕ → Change → List ℕ
sent p change = update_checksums 0 p (replaced 0 p change)

-- before the update of the header checksum
abbrev pub checksum_updated : List ℕ → Change → List ℕ
checksum_updated p change = update_transport_checksum 0 p (replaced 0 p change)

-- ports and identifier are after the header
replaced_front : (p : List ℕ) (change : Change) (k : ℕ) → k < payload_at 0 p
    → get_or (replaced 0 p change) k 0 ≡ get_or (timed p change) k 0
replaced_front p change k lt = grind (arith, change.numbers, cond_both, timed_payload, get_or-set_other)

checksum_updated_header : (p : List ℕ) (change : Change) (k : ℕ) → k < payload_at 0 p
    → get_or (checksum_updated p change) k 0 ≡ get_or (timed p change) k 0
checksum_updated_header p change k lt = transport_by (SameAt k (timed p change)) (suc k) (same_at k (timed p change)) 0 p
    (replaced 0 p change) (omega (arith, lt)) (replaced_front p change k lt)

-- a byte that belongs to no checksum
pub record IsBeside (p : List ℕ) (k : ℕ) : Type 0 where
  pub header : (k < 10) ⊎ (10 + 1 < k)
  pub tcp : protocol p ≡ 6 → (k < payload_at 0 p + 16) ⊎ (payload_at 0 p + 16 + 1 < k)
  pub udp : protocol p ≡ 17 → (k < payload_at 0 p + 6) ⊎ (payload_at 0 p + 6 + 1 < k)
  pub icmp : protocol p ≡ 1 → (k < payload_at 0 p + 2) ⊎ (payload_at 0 p + 2 + 1 < k)

pub sent_beside : (p : List ℕ) (change : Change) (k : ℕ) → IsBeside p k → get_or (sent p change) k 0 ≡ get_or (replaced 0 p change) k 0
sent_beside p change k beside =
    let now = replaced 0 p change in
    let carried = carried_by (SameAt k now) 0 p now (λ is w. byte_apart now _ w k (beside.tcp is))
    (λ is w. byte_apart now _ w k (beside.udp is)) (λ is w. byte_apart now _ w k (beside.icmp is)) refl in
    update_by (SameAt k now) (header_in 0) 10 p (checksum_updated p change) (λ w. byte_apart _ 10 w k beside.header ∙ carried) carried

pub sent_header : (p : List ℕ) (change : Change) (k : ℕ) → k < payload_at 0 p → (k < 10) ⊎ (11 < k)
    → get_or (sent p change) k 0 ≡ get_or (timed p change) k 0
sent_header p change k lt apart = sent_beside p change k (grind arith) ∙ replaced_front p change k lt

-- ports are the first four bytes, and the identifier stands after them
numbers_beside : (t : List ℕ) (numbers : PortsOrIdentifier) (k : ℕ) → (protocol_at 0 t ≢ 1 → payload_at 0 t + 4 ≤ k)
    → (protocol_at 0 t ≡ 1 → k < payload_at 0 t + 4) → get_or (with_numbers 0 t numbers) k 0 ≡ get_or t k 0
numbers_beside t (Ports from to) k past before = grind (arith, cond_both, SameAt, byte_apart)
numbers_beside t (Identifier number) k past before = grind (arith, cond_both, SameAt, byte_apart, is_icmp)

pub replaced_beside : (p : List ℕ) (change : Change) (k : ℕ) → 20 ≤ header_len p → payload_at 0 p ≤ k
    → (protocol_at 0 p ≢ 1 → payload_at 0 p + 4 ≤ k) → (protocol_at 0 p ≡ 1 → k < payload_at 0 p + 4)
    → get_or (replaced 0 p change) k 0 ≡ get_or p k 0
replaced_beside p change k long le past before =
    let t = timed p change in
    let protocol = timed_protocol p change in
    named_byte (with_numbers 0) t change.numbers k (λ n. numbers_beside t n k
    (λ other. rw (timed_payload p change) (past (λ one. other (protocol ∙ one))))
    (λ one. rw (timed_payload p change) (before (sym protocol ∙ one))))
    ∙ timed_byte p change k (omega (arith, long, le)) (inr (omega (arith, long, le)))

-- ==== Lengths of packets, and that their fields are there.

-- ---- a packet that passes the tests has all fields

pub record HasRoom (p : List ℕ) : Type 0 where
  pub tcp : protocol p ≡ 6 → payload_at 0 p + 20 ≤ total_len p
  pub udp : protocol p ≡ 17 → payload_at 0 p + 8 ≤ total_len p
  pub icmp : protocol p ≡ 1 → payload_at 0 p + 8 ≤ total_len p

pub has_room : (p : List ℕ) → Passes p → HasRoom p
has_room p ok =
    let within : length (payload_of p) + header_len p ≤ total_len p =
    omega (arith, length-drop (header_len p) (take (total_len p) p), length-take (total_len p) p, ok.head.head, ok.head.whole) in
    grind (arith, ok.transport, within)

pub has_fields : (p : List ℕ) → Passes p → HasFields 0 p
has_fields p ok = grind (arith, has_room p ok, ok.head.whole, ok.head.long, by_protocol, is_icmp)

-- ---- rewriting keeps the length

pub length-replaced : (start : ℕ) (p : List ℕ) (change : Change) → length (replaced start p change) ≡ length p
length-replaced start p change = replaced_by (AsLong p) 0 (as_long p) start p change (omega arith) refl

pub length-sent : (p : List ℕ) (change : Change) → length (sent p change) ≡ length p
length-sent p change = updated_by (AsLong p) 0 (as_long p) 0 p _ (omega arith) (length-replaced 0 p change)

-- ==== A rewritten packet passes the tests that the original passed.

-- ---- the sum of the header

pub header_keeps : (p : List ℕ) (change : Change) → Passes p → words_sum (header (sent p change)) % 65535 ≡ words_sum (header p) % 65535
header_keeps p change ok =
    let now = checksum_updated p change in
    let len = transport_by (AsLong p) 0 (as_long p) 0 p (replaced 0 p change) (omega arith) (length-replaced 0 p change) in
    let same : (k : ℕ) → k ≢ 8 → k < 12 → get_or now k 0 ≡ get_or p k 0 = λ k other lt.
    checksum_updated_header p change k (omega (arith, lt, ok.head.long)) ∙ timed_byte p change k other (inl lt) in
    update_keeps_sum (header_in 0) (head_of 0 (header_len p)) p now (λ q e. ap (λ b. take (b % 16 * 4) q) e)
    (head_shows (length now) 0 (header_len p) (omega (arith, len, ok.head.head, ok.head.whole))) 10 10 refl refl
    (omega (arith, ok.head.long)) (omega arith) (same 0 (omega arith) (omega arith))
    (word_same now p 10 (λ k le lt. same k (omega (arith, le)) (omega (arith, lt))))

-- ---- the tests on the payload

-- the bytes that a test or the kind of a packet reads
abbrev pub IsTested : ℕ → ℕ → Type 0
IsTested number i = ((number ≡ 6) × (i ≡ 12)) ⊎ (((number ≡ 17) × ((i ≡ 4) ⊎ (i ≡ 5))) ⊎ ((number ≡ 1) × (i ≡ 0)))

pub payload_byte : (xs : List ℕ) (h n i j : ℕ) → j ≡ h + i → j < n → get_or (drop h (take n xs)) i 0 ≡ get_or xs j 0
payload_byte xs h n i j is lt = rw is (get_or-drop h (take n xs) i 0 ∙ get_or-take n xs (h + i) 0 (omega (arith, is, lt)))

-- what the tests read stays: all of the header but its TTL, its checksum and its addresses, and bytes of the payload
pub record IsAlike (p q : List ℕ) : Type 0 where
  pub len : length q ≡ length p
  pub byte : (k : ℕ) → k < 10 → k ≢ 8 → get_or q k 0 ≡ get_or p k 0
  pub tested : (i : ℕ) → IsTested (protocol p) i → get_or q (header_len p + i) 0 ≡ get_or p (header_len p + i) 0

pub record SameHead (p q : List ℕ) : Type 0 where
  pub protocol : protocol q ≡ protocol p
  pub header : header_len q ≡ header_len p
  pub total : total_len q ≡ total_len p

pub same_head : (p q : List ℕ) → IsAlike p q → SameHead p q
same_head p q alike = let same = alike.byte in grind (arith, same 0, same 2, same 3, same 9)

pub tested_kept : (p q : List ℕ) → Passes p → IsAlike p q → (i : ℕ) → IsTested (protocol p) i
    → get_or (drop (header_len p) (take (total_len p) q)) i 0 ≡ get_or (payload_of p) i 0
tested_kept p q ok alike i is =
    let lt : header_len p + i < total_len p = grind (arith, has_room p ok) in
    payload_byte q (header_len p) (total_len p) i _ refl lt ∙ alike.tested i is ∙ sym (payload_byte p (header_len p) (total_len p) i _ refl lt)

pub passes_by : (p q : List ℕ) → Passes p → IsAlike p q → words_sum (header q) % 65535 ≡ words_sum (header p) % 65535 → Passes q
passes_by p q ok alike sum =
    let same = same_head p q alike in
    let h = header_len p in
    let n = total_len p in
    let ones = still_ones (header p) (header q) sum ok.head.sum
    (rw (get_or-take (header_len q) q 0 0 (omega (arith, same.header, ok.head.long)), alike.byte 0 (omega arith) (omega arith))
    (omega (arith, ok.head.four))) in
    let long : length (drop h (take n q)) ≡ length (payload_of p) =
    omega (arith, alike.len, length-drop h (take n q), length-drop h (take n p), length-take n q, length-take n p) in
    let tested = tested_kept p q ok alike in
    let right : transport_is_malformed (protocol p) (drop h (take n q)) ≡ false = grind (arith, long, tested 12, tested 4, tested 5, ok.transport) in
    let byte = alike.byte in
    grind (arith, same, ones, right, alike.len, byte 0, byte 6, byte 7)

pub sent_alike : (p : List ℕ) (change : Change) → Passes p → IsAlike p (sent p change)
sent_alike p change ok = record {
  len = length-sent p change;
  byte = λ k lt other. sent_header p change k (omega (arith, lt, ok.head.long)) (inl lt) ∙ timed_byte p change k other (inl (omega (arith, lt)));
  tested = λ i is. sent_beside p change (header_len p + i) (grind (arith, ok.head.long))
      ∙ replaced_beside p change (header_len p + i) ok.head.long (omega arith) (grind arith) (grind arith);
}

pub sent_passes : (p : List ℕ) (change : Change) → Passes p → Passes (sent p change)
sent_passes p change ok = passes_by p (sent p change) ok (sent_alike p change ok) (header_keeps p change ok)

-- ==== The error of the transport checksum doesn't change.

-- ---- the payload's offset stays

pub payload_same : (xs ys : List ℕ) → get_or xs 0 0 ≡ get_or ys 0 0 → payload_at 0 xs ≡ payload_at 0 ys
payload_same xs ys e = ap (λ b. 0 + b % 16 * 4) e

-- the same bytes stand under the transport checksum
abbrev IsCoveredAlike : List ℕ → List ℕ → Type 0
IsCoveredAlike now q = (pseudo_header_and_payload 0 q ≡ pseudo_header_and_payload 0 now) × (payload_in 0 q ≡ payload_in 0 now)

-- the header checksum isn't under it
beside_header : (now : List ℕ) (w : ℕ) → 20 ≤ header_len now → IsCoveredAlike now (with_u16 now 10 w)
beside_header now w long = grind (arith, drop-set-lt, get_or-set_other)

module _ (p : List ℕ) (change : Change) (ok : Passes p) where
  abbrev offset : ℕ
  offset = payload_at 0 p

  abbrev r : List ℕ
  r = replaced 0 p change

  long : 20 ≤ offset
  long = omega (arith, ok.head.long)

  first : get_or r 0 0 ≡ get_or p 0 0
  first = replaced_front p change 0 (omega (arith, long)) ∙ timed_byte p change 0 (omega arith) (inl (omega arith))

  pseudo_fixed : (q : List ℕ) → get_or q 0 0 ≡ get_or p 0 0 → pseudo_header_and_payload 0 q ≡ pseudo 0 offset q
  pseudo_fixed q e = ap (λ b. pseudo 0 (0 + b % 16 * 4) q) e

  sent_covered : IsCoveredAlike (checksum_updated p change) (sent p change)
  sent_covered =
      let now = checksum_updated p change in
      let same = checksum_updated_header p change 0 (omega (arith, long)) ∙ timed_byte p change 0 (omega arith) (inl (omega arith)) in
      update_by (IsCoveredAlike now) (header_in 0) 10 p now (λ w. beside_header now w (omega (arith, long, same))) (refl, refl)

  pseudo_shown : Shows (pseudo 0 offset) (length r) offset (length r - offset) 8
  pseudo_shown = payload_shows (length r) 0 offset long (omega (arith, length-replaced 0 p change, ok.head.head, ok.head.whole))

  word_past_ports : (k : ℕ) → protocol p ≢ 1 → 4 ≤ k → u16_at r (offset + k) ≡ u16_at p (offset + k)
  word_past_ports k other past = word_same r p (offset + k) (λ j le _.
      replaced_beside p change j ok.head.long (omega (arith, le)) (λ _. omega (arith, past, le)) (λ one. absurd (other one)))

  pub tcp_sum_kept : protocol p ≡ 6
      → words_sum (pseudo_header_and_payload 0 (sent p change)) % 65535 ≡ words_sum (pseudo_header_and_payload 0 p) % 65535
  tcp_sum_kept six =
      let room : offset + 18 ≤ length p = omega (arith, (has_room p ok).tcp six, ok.head.whole) in
      rw (sent_covered.0, six, le-leb _ _ room)
      (update_keeps_sum (pseudo_header_and_payload 0) (pseudo 0 offset) p r pseudo_fixed pseudo_shown 16 (offset + 16) refl refl
      (omega (arith, room, length-replaced 0 p change)) (omega arith) first (word_past_ports 16 (λ one. omega (arith, six, one)) (omega arith)))

  pub udp_sum_kept : protocol p ≡ 17 → u16_at p (offset + 6) ≢ 0
      → words_sum (pseudo_header_and_payload 0 (sent p change)) % 65535 ≡ words_sum (pseudo_header_and_payload 0 p) % 65535
  udp_sum_kept seventeen made =
      rw (sent_covered.0, seventeen)
      (udp_update_keeps_sum (pseudo_header_and_payload 0) (pseudo 0 offset) p r pseudo_fixed pseudo_shown 6 (offset + 6) refl refl
      (omega (arith, (has_room p ok).udp seventeen, ok.head.whole, length-replaced 0 p change)) (omega arith) first
      (word_past_ports 6 (λ one. omega (arith, seventeen, one)) (omega arith)) made)

  pub icmp_sum_kept : protocol p ≡ 1 → words_sum (payload_in 0 (sent p change)) % 65535 ≡ words_sum (payload_in 0 p) % 65535
  icmp_sum_kept one =
      let fixed : (q : List ℕ) → get_or q 0 0 ≡ get_or p 0 0 → payload_in 0 q ≡ drop offset q = λ q e. ap (λ b. drop (0 + b % 16 * 4) q) e in
      rw (sent_covered.1, one)
      (update_keeps_sum (payload_in 0) (drop offset) p r fixed (rest_shows (length r) offset) 2 (offset + 2) refl refl
      (omega (arith, (has_room p ok).icmp one, ok.head.whole, length-replaced 0 p change)) (omega arith) first
      (word_same r p (offset + 2) (λ k le lt. replaced_beside p change k ok.head.long (omega (arith, le))
      (λ other. absurd (other one)) (λ _. omega (arith, lt)))))
