-- The laws of rewritten packets: with a rewritten quoted datagram, and the tuple of one that was given endpoints.
-- To be read before it: Words, Checksums, Datagrams, Packets.
use Rattle.rewrite.proofs.Words.{number_byte_apart, number_same, word_same, word_stays, AsLong, SameAt, as_long, ends_by, named_by, same_at, update_by}
use Rattle.rewrite.proofs.Words.{length-word, number_written, word_apart, word_written}
use Rattle.std.proofs.lemmas.Bool.Decides.{nat_tests}
use Rattle.rewrite.proofs.Packets.{IsAlike, sent_alike, IsBeside, IsTested, tested_kept, sent_beside, sent, length-sent, passes_by, payload_byte, sent_passes}
use Rattle.rewrite.proofs.Packets.{icmp_sum_kept, payload_same, has_room, named_byte, sent_header, timed}
use Rattle.rewrite.proofs.Packets.{timed_byte, timed_payload, timed_protocol, same_head}
use Rattle.rewrite.proofs.Datagrams.{first_of_rest, IsDatagram, whole_is, fields_exchanged, fields_room, is_icmp}
use Rattle.rewrite.proofs.Checksums.{Covers, rest_shows, update_checksum-is, update_keeps_sum}
use Rattle.std.proofs.Common.{◌≡◌, ◌≢◌, ℕ, suc, ◌+◌, ◌*◌, ◌%◌, ◌<◌, ◌≤◌, inl, Option, Some, None, List, length, get_or, take, drop, length-take, length-drop}
use Rattle.std.proofs.Common.{Bool, true, false, set, refl, sym, ap, ◌∙◌, arith, inr}
use Rattle.std.specs.Prelude.{◌==◌, is_some, if◌then◌else◌, ◌||◌}
use Rattle.std.specs.Option.{option_and, option_map}
use Rattle.std.proofs.lemmas.Bool.{cond_both, eqb-true, and_parts}
use Rattle.std.proofs.lemmas.List.{take-set-le, get_or-drop, get_or-set_other, length-set}
use Rattle.ip_headers.specs.declared.tuple.Tuple.{Tuple}
use Rattle.ip_headers.specs.Sum.{words_sum}
use Rattle.ip_headers.specs.Bytes.{u16_at, with_u16, byte_at, with_u32}
use Rattle.ip_headers.specs.Header.{header_len, payload_at, payload_of, protocol, total_len, source, destination}
use Rattle.ip_headers.specs.Passing.{Passes}
use Rattle.ip_headers.specs.Transport.{icmp_type}
use Rattle.ip_headers.specs.Tuple.{inner_of, inner_tuple, inner_tuple_of, is_error, is_readable, tuple_in, kind_of, port_from, port_to, tuple_of}
use Rattle.ip_headers.specs.Tuple.{tuple_with}
use Rattle.rewrite.specs.declared.change.Change.{Change}
use Rattle.rewrite.specs.Endpoints.{between, PortsMatchKind, ports_or_identifier}
use Rattle.rewrite.specs.Rewritten.{payload_in, write_if_some, inner_start, update_checksum, rewritten, with_endpoints, with_inner, has_identifier, replaced}
use Rattle.rewrite.specs.Rewritten.{with_ports}
use Rattle.rewrite.specs.steps.Fields.{HasFields, changed_fields, fields_at, fields_change, updated_checksum, with_fields}
use Rattle.ip_headers.specs.declared.tuple.Kind.{Kind}
use Rattle.ip_headers.specs.declared.tuple.Kind.TheVariants.{Tcp, Udp, EchoRequest, EchoReply, Other}
use Rattle.rewrite.specs.declared.change.PortsOrIdentifier.TheVariants.{Ports, Identifier}

-- ==== An ICMP error with a rewritten quoted datagram: the tests that it passes, and the sum under its checksum.

-- ---- the bytes before the quoted datagram stay

ends_byte : (start : ℕ) (p : List ℕ) (t : Tuple) (k : ℕ) → k < start → get_or (with_endpoints start p t) k 0 ≡ get_or p k 0
ends_byte start p t k lt = ends_by (SameAt k p) (suc k) (same_at k p) start p t (omega (arith, lt)) refl

-- ---- packets that quote a datagram, and others

abbrev pub inner_rewritten : List ℕ → Change → List ℕ
inner_rewritten p change = write_if_some with_inner p change.inner

-- the error with the rewritten quoted datagram
abbrev pub quote_rewritten : List ℕ → Tuple → List ℕ
quote_rewritten p t = update_checksum (payload_in 0) (payload_at 0 p + 2) p (with_endpoints (inner_start p) p t)

some_by : (b : Bool) (o : Option Tuple) → is_some (if b then o else None) ≡ true → (b ≡ true) × (is_some o ≡ true)
some_by true o h = (refl, h)
some_by false o h = cc

-- ---- the tests that it passes

quote_by : (P : List ℕ → Type 0) (low : ℕ) → ((bytes : List ℕ) (k v : ℕ) → low ≤ k → P bytes → P (set bytes k v))
    → (p : List ℕ) (t : Tuple) → low ≤ payload_at 0 p + 2 → P p → P (quote_rewritten p t)
quote_by P low byte p t le h =
    let ends = ends_by P low byte (inner_start p) p t (omega (arith, le)) h in
    update_by P (payload_in 0) (payload_at 0 p + 2) p _ (λ w. search (arith, byte, ends)) ends

length-quote_rewritten : (p : List ℕ) (t : Tuple) → length (quote_rewritten p t) ≡ length p
length-quote_rewritten p t = quote_by (AsLong p) 0 (as_long p) p t (omega arith) refl

quote_rewritten_passes : (p : List ℕ) (t : Tuple) → Passes p → protocol p ≡ 1 → Passes (quote_rewritten p t)
quote_rewritten_passes p t ok one =
    let q = quote_rewritten p t in
    let h = header_len p in
    let same : (k : ℕ) → k < h + 2 → get_or q k 0 ≡ get_or p k 0 = λ k lt. quote_by (SameAt k p) (suc k) (same_at k p) p t (omega (arith, lt)) refl in
    let front = quote_by (λ l. take h l ≡ take h p) h (λ l k v le e. take-set-le h l k v le ∙ e) p t (omega arith) refl in
    let alike : IsAlike p q = record {
      len = length-quote_rewritten p t;
      byte = λ k lt _. same k (omega (arith, ok.head.long, lt));
      tested = λ i is. same (h + i) (grind (arith, one));
    } in
    passes_by p q ok alike (ap (λ l. words_sum l % 65535) (ap (λ k. take k q) (same_head p q alike).header ∙ front))

-- what holds of the packet, and of an error with the rewritten quoted datagram, holds after the first step
inner_by : (P : List ℕ → Type 0) (p : List ℕ) (change : Change) → ((t : Tuple) → protocol p ≡ 1 → P (quote_rewritten p t)) → P p
    → P (inner_rewritten p change)
inner_by P p change some none = named_by P with_inner p change.inner
    (λ t. cond_both (is_some (inner_tuple_of p)) (quote_rewritten p t) p P (λ h. some t (grind (arith, some_by, and_parts, eqb-true, h))) (λ _. none)) none

pub inner_rewritten_passes : (p : List ℕ) (change : Change) → Passes p → Passes (inner_rewritten p change)
inner_rewritten_passes p change ok = inner_by Passes p change (λ t one. quote_rewritten_passes p t ok one) ok

pub rewritten_passes : (p : List ℕ) (change : Change) → Passes p → Passes (rewritten p change)
unfolding rewritten
rewritten_passes p change ok = sent_passes (inner_rewritten p change) change (inner_rewritten_passes p change ok)

-- ---- its length

pub length_rewritten : (p : List ℕ) (change : Change) → length (rewritten p change) ≡ length p
unfolding rewritten
length_rewritten p change = length-sent (inner_rewritten p change) change
    ∙ inner_by (AsLong p) p change (λ t _. length-quote_rewritten p t) refl

-- ---- the sum under its checksum

-- only ICMP messages quote a datagram
abbrev SameBut : ℕ → List ℕ → List ℕ → Type 0
SameBut number p q = (protocol q ≡ number) × (words_sum (payload_in 0 q) % 65535 ≡ words_sum (payload_in 0 p) % 65535)

inner_sum_kept : (p : List ℕ) (t : Tuple) → Passes p → protocol p ≡ 1 → SameBut 1 p (quote_rewritten p t)
inner_sum_kept p t ok one =
    let now = with_endpoints (inner_start p) p t in
    let offset = payload_at 0 p in
    let long : 20 ≤ offset = omega (arith, ok.head.long) in
    let same : (k : ℕ) → k < offset + 8 → get_or now k 0 ≡ get_or p k 0 = λ k lt. ends_byte (inner_start p) p t k lt in (
      quote_by (SameAt 9 p) 10 (same_at 9 p) p t (omega (arith, long)) refl ∙ one,
      update_keeps_sum (payload_in 0) (drop offset) p now (λ q e. ap (λ b. drop (0 + b % 16 * 4) q) e) (rest_shows (length now) offset)
          2 (offset + 2) refl refl
          (omega (arith, (has_room p ok).icmp one, ok.head.whole, ends_by (AsLong p) 0 (as_long p) (inner_start p) p t (omega arith) refl)) (omega arith)
          (same 0 (omega (arith, long))) (word_same now p (offset + 2) (λ k _ lt. same k (omega (arith, lt)))),
    )

pub icmp_sum_kept_with_inner : (p : List ℕ) (change : Change) → Passes p → protocol p ≡ 1
    → words_sum (payload_in 0 (rewritten p change)) % 65535 ≡ words_sum (payload_in 0 p) % 65535
unfolding rewritten
icmp_sum_kept_with_inner p change ok one =
    let w = inner_by (SameBut 1 p) p change (λ t _. inner_sum_kept p t ok one) (one, refl) in
    icmp_sum_kept (inner_rewritten p change) change (inner_rewritten_passes p change ok) w.0 ∙ w.1

-- a packet of another protocol stays
pub rewritten_other : (p : List ℕ) (change : Change) → protocol p ≢ 1 → rewritten p change ≡ sent p change
unfolding rewritten
rewritten_other p change other =
    ap (λ q. sent q change) (inner_by (λ q. q ≡ p) p change (λ t one. absurd (other one)) refl)

-- ---- the quoted datagram's fields are there, and only its words change under the error's checksum

readable : (inner : List ℕ) → is_readable inner ≡ true → (20 ≤ header_len inner) × (header_len inner + 8 ≤ length inner)
readable inner h = grind arith

pub inner_fields : (p : List ℕ) → Passes p → is_some (inner_tuple_of p) ≡ true → HasFields (inner_start p) p
inner_fields p ok h =
    let inner = inner_of p in
    let quote_rewritten_one = (some_by (is_error p) (inner_tuple inner) h).1 in
    let is = readable inner (some_by (is_readable inner) (tuple_in inner (drop (header_len inner) inner)) quote_rewritten_one).0 in
    let n = total_len p in
    let head = header_len p in
    let room : length inner + (head + 8) ≤ n =
    omega (arith, is.1, length-drop 8 (payload_of p), length-drop head (take n p), length-take n p) in
    let first : get_or inner 0 0 ≡ get_or (drop (inner_start p) p) 0 0 = get_or-drop 8 (payload_of p) 0 0
    ∙ payload_byte p head n 8 (inner_start p) (omega arith) (omega (arith, is.1, room)) ∙ sym (first_of_rest p (inner_start p)) in
    let same : header_len inner ≡ header_len (drop (inner_start p) p) = ap (λ b. b % 16 * 4) first in
    record {
      long = omega (arith, same, is.0);
      whole = fields_room (inner_start p) p (omega (arith, same, is.1, room, ok.head.whole));
    }

pub quote_rewritten_is : (p : List ℕ) (t : Tuple) → 20 ≤ payload_at 0 p → IsDatagram (inner_start p) p
    → with_u16 (with_endpoints (inner_start p) p t) (payload_at 0 p + 2)
    (updated_checksum (fields_change (fields_at (inner_start p) p)
    (changed_fields (between t None) (fields_at (inner_start p) p))) (u16_at p (payload_at 0 p + 2)))
    ≡ quote_rewritten p t
quote_rewritten_is p t long d =
    let start = inner_start p in
    let offset = payload_at 0 p in
    let new = changed_fields (between t None) (fields_at start p) in
    let words = fields_change (fields_at start p) new in
    let now = with_endpoints start p t in
    let is : with_fields start p new ≡ now = whole_is start p (between t None) d in
    let same : (k : ℕ) → k < start → get_or now k 0 ≡ get_or p k 0 = λ k lt. ends_byte start p t k lt in
    let covers : Covers words (payload_in 0 p) (payload_in 0 now) =
    rw (payload_same now p (same 0 (omega (arith, long))), sym is) (fields_exchanged offset start p (between t None) refl d) in
    sym (update_checksum-is (payload_in 0) (offset + 2) p now words covers
    (word_stays now p (offset + 2) d.small (λ k _ lt. same k (omega (arith, lt)))))

-- ---- the packet after the first step

pub read_some : (o r : Option Tuple) (t : Tuple) → option_and o r ≡ Some t → is_some o ≡ true
read_some o r t e = grind (arith, o, e)

inner_of_both : (o r : Option Tuple) (p : List ℕ) → inner_tuple_of p ≡ o
    → write_if_some quote_rewritten p (option_and o r) ≡ write_if_some with_inner p r
inner_of_both o r p is = grind (arith, o, r, is)

pub inner_rewritten_is : (p : List ℕ) (change : Change)
    → write_if_some quote_rewritten p (option_and (inner_tuple_of p) change.inner) ≡ inner_rewritten p change
inner_rewritten_is p change = inner_of_both (inner_tuple_of p) change.inner p refl

-- ==== A packet rewritten to the endpoints of a tuple has that tuple.

-- ---- fields of the payload

word_of_payload : (xs : List ℕ) (h n i j : ℕ) → j ≡ h + i → j + 1 < n → u16_at (drop h (take n xs)) i ≡ u16_at xs j
word_of_payload xs h n i j is lt =
    rw (payload_byte xs h n i j is (omega (arith, lt)), payload_byte xs h n (i + 1) (j + 1) (omega (arith, is)) lt) refl

-- ---- addresses

addressed : (p : List ℕ) (change : Change) (from to : ℕ) → Passes p → change.source ≡ Some from
    → change.destination ≡ Some to → (source (sent p change) ≡ from) × (destination (sent p change) ≡ to)
addressed p change from to ok a b =
    let q = sent p change in
    let one = with_u32 p 12 from in
    let two = with_u32 one 16 to in
    let room : 20 ≤ length p = omega (arith, ok.head.long, ok.head.head, ok.head.whole) in
    let same : (k : ℕ) → 11 < k → k < 20 → get_or q k 0 ≡ get_or two k 0 = λ k past lt.
    sent_header p change k (omega (arith, ok.head.long, lt)) (inr past) ∙ grind (arith, named_byte, change.ttl, get_or-set_other, a, b) in
    rw (number_same q two 12 (λ k le lt. same k le (omega (arith, lt))), number_same q two 16 (λ k le lt. same k (omega (arith, le)) lt))
    (grind (arith, number_written, number_same, number_byte_apart, length-set))

-- ---- ports and identifiers

length-timed : (p : List ℕ) (change : Change) → length (timed p change) ≡ length p
length-timed p change = grind (arith, change.source, change.destination, change.ttl, length-set)

module _ (p : List ℕ) (change : Change) (ok : Passes p) where
  -- a word of the payload, as it was written
  word_sent : (i j : ℕ) (now : List ℕ) → j ≡ payload_at 0 p + i → j + 2 ≤ total_len p → replaced 0 p change ≡ now
      → ((k : ℕ) → j ≤ k → k < j + 2 → IsBeside p k) → u16_at (payload_of (sent p change)) i ≡ u16_at now j
  word_sent i j now at room is beside =
      let head = same_head p _ (sent_alike p change ok) in
      rw (head.header, head.total)
      (word_of_payload (sent p change) (header_len p) (total_len p) i j (omega (arith, at)) (omega (arith, room))
      ∙ word_same (sent p change) (replaced 0 p change) j (λ k le lt. sent_beside p change k (beside k le lt)) ∙ ap (λ l. u16_at l j) is)

  ports_shown : (number from to : ℕ) → protocol p ≡ number → (number == 6 || number == 17) ≡ true
      → change.numbers ≡ Some (Ports from to)
      → (u16_at (payload_of (sent p change)) 0 ≡ from) × (u16_at (payload_of (sent p change)) 2 ≡ to)
  ports_shown number from to is some e =
      let t = timed p change in
      let place = payload_at 0 p in
      let one = with_u16 t place from in
      let room : place + 4 ≤ total_len p = grind (arith, nat_tests, has_room p ok) in
      let long : place + 4 ≤ length t = omega (arith, length-timed p change, room, ok.head.whole) in
      let beside : (k : ℕ) → place ≤ k → k < place + 4 → IsBeside p k = λ k le lt. grind (arith, nat_tests, ok.head.long) in
      let r : replaced 0 p change ≡ with_ports place t from to =
      rw (e, timed_protocol p change ∙ is, some, timed_payload p change) refl in (
        word_sent 0 place (with_ports place t from to) (omega arith) (omega (arith, room)) r (λ k le lt. beside k le (omega (arith, lt)))
            ∙ word_apart one (place + 2) to place (inl (omega arith)) ∙ word_written t place from (omega (arith, long)),
        word_sent 2 (place + 2) (with_ports place t from to) refl (omega (arith, room)) r
            (λ k le lt. beside k (omega (arith, le)) (omega (arith, lt)))
            ∙ word_written one (place + 2) to (omega (arith, long, length-word t place from)),
      )

  icmp_identifier : (id : ℕ) → has_identifier (protocol p) (icmp_type (payload_of p)) ≡ true
      → change.numbers ≡ Some (Identifier id) → u16_at (payload_of (sent p change)) 4 ≡ id
  icmp_identifier id there e =
      let t = timed p change in
      let place = payload_at 0 p in
      let one = is_icmp (protocol p) (icmp_type (payload_of p)) there in
      let room = (has_room p ok).icmp one in
      let first : byte_at t place ≡ icmp_type (payload_of p) =
      timed_byte p change place (omega (arith, ok.head.long)) (inr (omega (arith, ok.head.long)))
      ∙ sym (payload_byte p (header_len p) (total_len p) 0 place (omega arith) (omega (arith, room))) in
      let echo : has_identifier 1 (byte_at t place) ≡ true = rw first (rw one at there) in
      let r : replaced 0 p change ≡ with_u16 t (place + 4) id =
      rw (e, timed_protocol p change ∙ one, timed_payload p change, echo) refl in
      word_sent 4 (place + 4) (with_u16 t (place + 4) id) refl (omega (arith, room)) r (λ k le _. grind (arith, ok.head.long))
      ∙ word_written t (place + 4) id (omega (arith, length-timed p change, room, ok.head.whole))

-- ---- kinds

kind_same : (number : ℕ) (x y : List ℕ) → ((i : ℕ) → IsTested number i → get_or x i 0 ≡ get_or y i 0) → kind_of number x ≡ kind_of number y
kind_same number x y same = grind (arith, same 0)

suits : (kind : Kind) (p : List ℕ) (change : Change) (from to : ℕ) → Passes p
    → kind_of (protocol p) (payload_of p) ≡ Some kind → change.numbers ≡ ports_or_identifier kind from to
    → PortsMatchKind kind from to
    → (port_from kind (payload_of (sent p change)) ≡ from) × (port_to kind (payload_of (sent p change)) ≡ to)
suits Tcp p change from to ok is e h = ports_shown p change ok 6 from to (grind (arith, is)) refl e
suits Udp p change from to ok is e h = ports_shown p change ok 17 from to (grind (arith, is)) refl e
suits EchoRequest p change from to ok is e h = (icmp_identifier p change ok from (grind (arith, is)) e, sym h)
suits EchoReply p change from to ok is e h = (sym h, icmp_identifier p change ok to (grind (arith, is)) e)
suits (Other number) p change from to ok is e h = (sym h.0, sym h.1)

sent_kind : (p : List ℕ) (change : Change) → Passes p
    → kind_of (protocol (sent p change)) (payload_of (sent p change)) ≡ kind_of (protocol p) (payload_of p)
sent_kind p change ok =
    let alike = sent_alike p change ok in
    let same = same_head p _ alike in
    rw (same.protocol, same.header, same.total) (kind_same (protocol p) _ (payload_of p) (tested_kept p _ ok alike))

pub rewritten_has_tuple : (p : List ℕ) (t : Tuple) (ttl : Option ℕ) → Passes p
    → kind_of (protocol p) (payload_of p) ≡ Some t.kind → PortsMatchKind t.kind t.source.port t.destination.port
    → tuple_of (sent p (between t ttl)) ≡ Some t
rewritten_has_tuple p t ttl ok is suit =
    let change = between t ttl in
    let q = sent p change in
    let ends = addressed p change t.source.address t.destination.address ok refl refl in
    let ports = suits t.kind p change t.source.port t.destination.port ok is refl suit in
    ap (λ o. option_map (λ one. tuple_with one q (payload_of q)) o) (sent_kind p change ok ∙ is)
    ∙ rw (ends.0, ends.1, ports.0, ports.1) refl
