-- Writing the changed fields gives the rewritten datagram, and the changed words of its fields are those of its bytes.
use Rattle.std.proofs.lemmas.Bool.Decides.{nat_tests}
use Rattle.rewrite.proofs.Words.{number_stays, byte_apart, number_byte_apart, byte_of_part, word_of_rest, byte_after}
use Rattle.rewrite.proofs.Words.{word_stays, fields_by, SameAt, same_at, either_by}
use Rattle.rewrite.specs.steps.Fields.{port_change, fields_at, combined, u32_change, u16_change, transport_fields_of, changed_transport_fields}
use Rattle.rewrite.specs.steps.Fields.{changed_fields, identifier_named, len_of, ports_named, updated_checksum, with_transport_fields, with_fields}
use Rattle.rewrite.specs.steps.Fields.{keeps_endpoints, keeps_numbers, with_ttl_field, and_transport_words, transport_words, fields_change}
use Rattle.rewrite.proofs.Checksums.{alone, Shows, Writes, hidden, nothing_written, number_more, word_more, high_byte_more, pair_shows, payload_shows}
use Rattle.rewrite.proofs.Checksums.{rest_shows, head_shows, counted_as, pseudo, head_of, Covers, update_checksum-is, update_checksum-kept}
use Rattle.rewrite.proofs.Checksums.{update_udp_checksum-is}
use Rattle.std.proofs.Math.Bool.{and_assoc, and-true}
use Rattle.std.proofs.Common.{◌≡◌, ℕ, ◌+◌, ◌*◌, ◌%◌, ◌<◌, ◌≤◌, ◌⊎◌, inl, inr, List, length, get_or, set, take, drop, refl, sym, ap, ◌∙◌, arith, ◌-◌}
use Rattle.std.proofs.Common.{Option, Some, None, length-drop, true, false, suc}
use Rattle.std.proofs.lemmas.Bool.{and_parts, cond_both, leb-true, leb-false, eqb-true, le-leb, lt-leb}
use Rattle.std.proofs.lemmas.List.{length-set, get_or-drop, get_or-set_other, drop-set-lt, set-get_or}
use Rattle.std.proofs.lemmas.Grind.{common_steps}
use Rattle.ip_headers.specs.Bytes.{byte_at, u16_at, u32_at, with_u16, with_u32}
use Rattle.ip_headers.specs.Header.{header_len, payload_at, protocol_at}
use Rattle.rewrite.specs.declared.checksum.ChecksumDelta.{ChecksumDelta}
use Rattle.rewrite.specs.Rewritten.{header_in, payload_in, pseudo_header_and_payload, with_ports, write_if_some, replaced}
use Rattle.rewrite.specs.Rewritten.{update_transport_checksum, update_checksums, has_identifier, update_header_checksum, with_numbers, with_ttl}
use Rattle.std.specs.Prelude.{◌==◌, ◌||◌, unwrap_or}
use Rattle.rewrite.specs.declared.change.Change.{Change}
use Rattle.rewrite.specs.declared.change.PortsOrIdentifier.{PortsOrIdentifier}
use Rattle.rewrite.specs.declared.change.PortsOrIdentifier.TheVariants.{Ports, Identifier}
use Rattle.rewrite.specs.declared.fields.TransportFields.{TransportFields}
use Rattle.rewrite.specs.declared.fields.TransportFields.TheVariants.{Tcp, Udp, Echo, Other}

-- ==== The words that change under each checksum of a datagram.

-- ---- the datagram with another header

-- bytes that have all fields of a datagram
pub record IsDatagram (start : ℕ) (p : List ℕ) : Type 0 where
  pub small : (i : ℕ) → get_or p i 0 < 256
  pub long : 20 ≤ header_len (drop start p)
  pub whole : payload_at start p + len_of (fields_at start p).transport ≤ length p

module _ (start : ℕ) (p : List ℕ) (from to ttl : ℕ) where
  abbrev sourced : List ℕ
  sourced = with_u32 p (start + 12) from

  abbrev addressed : List ℕ
  addressed = with_u32 sourced (start + 16) to

  abbrev pub timed : List ℕ
  timed = set addressed (start + 8) ttl

  timed_rest : (a : ℕ) → start + 20 ≤ a → drop a timed ≡ drop a p
  timed_rest a past = grind (arith, drop-set-lt)

  -- a byte beside the fields
  timed_byte : (k : ℕ) → (k < start + 8) ⊎ (start + 8 < k) → (k < start + 12) ⊎ (start + 19 < k) → get_or timed k 0 ≡ get_or p k 0
  timed_byte k apart past = grind (arith, get_or-set_other)

  timed_first : get_or timed start 0 ≡ get_or p start 0
  timed_first = timed_byte start (inl (omega arith)) (inl (omega arith))

-- the payload's offset stays, whatever is written after the first byte
pub first_of_rest : (xs : List ℕ) (start : ℕ) → get_or (drop start xs) 0 0 ≡ get_or xs start 0
first_of_rest xs start = grind (arith, common_steps)

pub same_byte-len : (start : ℕ) (p now : List ℕ) → get_or now start 0 ≡ get_or p start 0
    → header_len (drop start now) ≡ header_len (drop start p)
same_byte-len start p now e = ap (λ b. b % 16 * 4) (first_of_rest now start ∙ e ∙ sym (first_of_rest p start))

-- the datagram with another header, after it
pub record Behind (start : ℕ) (p t : List ℕ) : Type 0 where
  pub protocol : protocol_at start t ≡ protocol_at start p
  pub payload : payload_at start t ≡ payload_at start p
  pub bytes : (k : ℕ) → payload_at start p ≤ k → get_or t k 0 ≡ get_or p k 0
  pub small : (k : ℕ) → get_or p k 0 < 256

pub timed_behind : (start : ℕ) (p : List ℕ) (from to ttl : ℕ) → IsDatagram start p → Behind start p (timed start p from to ttl)
timed_behind start p from to ttl d = grind (arith, get_or-drop, timed_byte, d.long, d.small)

module _ (start : ℕ) (p t : List ℕ) (b : Behind start p t) where
  abbrev behind_at : ℕ
  behind_at = payload_at start p

  -- a word that stays is as if it were written
  kept_in : (now : List ℕ) (k : ℕ) → behind_at ≤ k → ((j : ℕ) → k ≤ j → j < k + 2 → get_or now j 0 ≡ get_or t j 0)
      → with_u16 now k (u16_at p k) ≡ now
  kept_in now k le same = word_stays now p k b.small (λ j past lt. same j past lt ∙ b.bytes j (omega (arith, le, past)))

  kept_behind : (k : ℕ) → behind_at ≤ k → with_u16 t k (u16_at p k) ≡ t
  kept_behind k le = kept_in t k le (λ _ _ _. refl)

  ports_kept_behind : with_ports behind_at t (u16_at p behind_at) (u16_at p (behind_at + 2)) ≡ t
  ports_kept_behind = rw (kept_behind behind_at (omega arith)) (kept_behind (behind_at + 2) (omega arith))

  -- past two ports that were written
  kept_past_ports : (from to k : ℕ) → behind_at + 4 ≤ k → with_u16 (with_ports behind_at t from to) k (u16_at p k) ≡ with_ports behind_at t from to
  kept_past_ports from to k le =
      kept_in (with_ports behind_at t from to) k (omega (arith, le)) (λ j past _. grind (arith, byte_apart))

  kept_past_identifier : (number : ℕ) → with_u16 (with_u16 t (behind_at + 4) number) (behind_at + 2) (u16_at p (behind_at + 2))
      ≡ with_u16 t (behind_at + 4) number
  kept_past_identifier number = kept_in (with_u16 t (behind_at + 4) number) (behind_at + 2) (omega arith)
      (λ j _ lt. byte_apart t (behind_at + 4) number j (inl (omega (arith, lt))))

-- ---- the header

abbrev pub pair_words : ℕ → List ℕ → ℕ → ℕ → ChecksumDelta
pair_words start p from to = combined (u32_change (u32_at p (start + 12)) from) (u32_change (u32_at p (start + 16)) to)

abbrev ttl_words : ℕ → List ℕ → ℕ → ChecksumDelta
ttl_words start p ttl = u16_change (byte_at p (start + 8) * 256) (ttl * 256)

module _ (over : List ℕ → List ℕ) (start : ℕ) (p : List ℕ) (from to : ℕ) (d : IsDatagram start p) {low n base : ℕ}
    (s : Shows over (length p) low n base) where
  addresses_written : (i : ℕ) → (base + i) % 2 ≡ 0 → start + 12 ≡ low + i → i + 8 ≤ n
      → Writes over p (pair_words start p from to) (with_u32 (with_u32 p (start + 12) from) (start + 16) to)
  addresses_written i even is room =
      number_more over p d.small s (i + 4) (start + 16) to _ (omega (arith, even)) (omega (arith, is)) (omega (arith, room))
      (λ k le _. number_byte_apart p (start + 12) from k (inr (omega (arith, le))))
      (alone (number_more over p d.small s i (start + 12) from p even is (omega (arith, room)) (λ _ _ _. refl) (nothing_written over p)))

  timed_written : (ttl i : ℕ) → (base + i) % 2 ≡ 0 → start ≡ low + i → i + 20 ≤ n
      → Writes over p (combined (pair_words start p from to) (ttl_words start p ttl)) (timed start p from to ttl)
  timed_written ttl i even is room =
      high_byte_more over p s (i + 8) (start + 8) ttl _ (omega (arith, even)) (omega (arith, is)) (omega (arith, room))
      (grind (arith, number_byte_apart)) (addresses_written (i + 12) (omega (arith, even)) (omega (arith, is)) (omega (arith, room)))

-- ---- the payload

none_more : {over : List ℕ → List ℕ} {p q : List ℕ} {w : ChecksumDelta} → Writes over p w q → Writes over p (combined w (u16_change 0 0)) q
none_more {over} {p} {q} {w} c = counted_as w _ (sym (and-true w.is_same)) (omega arith) c

abbrev pub carried_at : ℕ → List ℕ → TransportFields
carried_at start p = transport_fields_of (protocol_at start p) (drop (payload_at start p) p)

-- an identifier stands in ICMP messages alone
pub is_icmp : (number message : ℕ) → has_identifier number message ≡ true → number ≡ 1
is_icmp number message is = eqb-true number 1 (and_parts (number == 1) (message == 8 || message == 0) is).0

abbrev word_at : ℕ → List ℕ → ℕ → ℕ
word_at start p i = u16_at p (payload_at start p + i)

-- what is shown for each protocol holds of the fields of a datagram
pub by_protocol : (start : ℕ) (p : List ℕ) (P : TransportFields → Type 0)
    → (protocol_at start p ≡ 6 → length p < payload_at start p + 18 → P (Tcp (u16_at p (payload_at start p)) (word_at start p 2) None))
    → (protocol_at start p ≡ 6 → payload_at start p + 18 ≤ length p
    → P (Tcp (u16_at p (payload_at start p)) (word_at start p 2) (Some (word_at start p 16))))
    → (protocol_at start p ≡ 17 → P (Udp (u16_at p (payload_at start p)) (word_at start p 2) (word_at start p 6)))
    → (has_identifier (protocol_at start p) (byte_at p (payload_at start p)) ≡ true → P (Echo (word_at start p 4) (word_at start p 2)))
    → ((protocol_at start p == 6) ≡ false → (protocol_at start p == 17) ≡ false
    → has_identifier (protocol_at start p) (byte_at p (payload_at start p)) ≡ false → P Other)
    → P (carried_at start p)
by_protocol start p P cut tcp udp echo other = grind (arith, first_of_rest, word_of_rest, cond_both, eqb-true, leb-true, length-drop, leb-false)

module _ (over : List ℕ → List ℕ) (start : ℕ) (p t : List ℕ) (b : Behind start p t) {w : ChecksumDelta} (c : Writes over p w t)
    {low n base : ℕ} (s : Shows over (length p) low n base) (i : ℕ) (at : payload_at start p ≡ low + i) (even : (base + i) % 2 ≡ 0)
    (whole : low + n ≡ length p) where
  abbrev front : ℕ
  front = payload_at start p

  ports_written : (x y : ℕ) → front + 4 ≤ length p → Writes over p (combined (combined w (u16_change (u16_at p front) x))
      (u16_change (u16_at p (front + 2)) y)) (with_ports front t x y)
  ports_written x y room =
      word_more over p b.small s (i + 2) (front + 2) y (with_u16 t front x) (omega (arith, even)) (omega (arith, at))
      (omega (arith, at, whole, room)) (λ k le _. grind (arith, byte_apart, b.bytes))
      (word_more over p b.small s i front x t even at (omega (arith, at, whole, room)) (λ k le _. b.bytes k le) c)

  -- and a word after the ports
  after_ports : (x y k v : ℕ) → 4 ≤ k → k % 2 ≡ 0 → front + (k + 2) ≤ length p
      → Writes over p (combined (combined (combined w (u16_change (u16_at p front) x)) (u16_change (u16_at p (front + 2)) y))
      (u16_change (u16_at p (front + k)) v)) (with_u16 (with_ports front t x y) (front + k) v)
  after_ports x y k v past even_too room =
      word_more over p b.small s (i + k) (front + k) v (with_ports front t x y) (omega (arith, even, even_too)) (omega (arith, at))
      (omega (arith, at, whole, room)) (λ j le _. grind (arith, byte_apart, b.bytes))
      (ports_written x y (omega (arith, past, room)))

  identifier_written : (x : ℕ) → front + 6 ≤ length p
      → Writes over p (combined w (u16_change (u16_at p (front + 4)) x)) (with_u16 t (front + 4) x)
  identifier_written x room =
      word_more over p b.small s (i + 4) (front + 4) x t (omega (arith, even)) (omega (arith, at)) (omega (arith, at, whole, room))
      (λ k le _. b.bytes k (omega (arith, le))) c

  -- what each protocol needs
  abbrev IsExchanged : Option PortsOrIdentifier → ChecksumDelta → TransportFields → Type 0
  IsExchanged numbers addresses fields = front + len_of fields ≤ length p
      → Writes over p (and_transport_words w (transport_words fields)
      (transport_words (changed_transport_fields numbers addresses fields)))
      (with_transport_fields front t (changed_transport_fields numbers addresses fields))

  carried_exchanged : (numbers : Option PortsOrIdentifier) (addresses : ChecksumDelta) → IsExchanged numbers addresses (carried_at start p)
  carried_exchanged numbers addresses =
      by_protocol start p (IsExchanged numbers addresses)
      (λ _ _ room. none_more (ports_written _ _ room))
      (λ _ _ room. after_ports _ _ 16 _ (omega arith) refl room)
      (λ _ room. after_ports _ _ 6 _ (omega arith) refl room)
      (λ _ room. word_more over p b.small s (i + 2) (front + 2) _ _ (omega (arith, even)) (omega (arith, at))
      (omega (arith, at, whole, room)) (λ k le lt. byte_apart t (front + 4) _ k (inl (omega (arith, lt))) ∙ b.bytes k (omega (arith, le)))
      (none_more (identifier_written _ room)))
      (λ _ _ _ _. none_more (none_more (none_more c)))

-- ==== Writing the changed fields gives the rewritten datagram.

-- ---- a field without a new value is written as it was

-- a datagram with these fields, where a change writes its ports or its identifier
abbrev numbered : ℕ → List ℕ → Option PortsOrIdentifier → TransportFields → List ℕ
numbered offset t numbers (Tcp from to checksum) = let ports = ports_named numbers from to in with_ports offset t ports.0 ports.1
numbered offset t numbers (Udp from to checksum) = let ports = ports_named numbers from to in with_ports offset t ports.0 ports.1
numbered offset t numbers (Echo number checksum) = with_u16 t (offset + 4) (identifier_named numbers number)
numbered offset t numbers Other = t

module _ (start : ℕ) (p t : List ℕ) (b : Behind start p t) where
  abbrev IsNumbered : Option PortsOrIdentifier → TransportFields → Type 0
  IsNumbered numbers fields = write_if_some (with_numbers start) t numbers ≡ numbered (payload_at start p) t numbers fields

  numbers_written : (numbers : Option PortsOrIdentifier) → IsNumbered numbers (carried_at start p)
  numbers_written numbers =
      let place = payload_at start p in
      let ports = sym (ports_kept_behind start p t b) in
      let word = sym (kept_behind start p t b (place + 4) (omega arith)) in
      let number : (n : ℕ) → protocol_at start p ≡ n → protocol_at start t ≡ n = λ n is. b.protocol ∙ is in
      let first = b.bytes place (omega arith) in
      elim numbers as (λ o. IsNumbered o (carried_at start p)) [
        | None ↦ by_protocol start p (IsNumbered None) (λ _ _. ports) (λ _ _. ports) (λ _. ports) (λ _. word) (λ _ _ _. refl)
        | Some (Ports one other) ↦ by_protocol start p (IsNumbered (Some (Ports one other))) (λ is _. rw (number 6 is, b.payload) refl)
            (λ is _. rw (number 6 is, b.payload) refl) (λ is. rw (number 17 is, b.payload) refl)
            (λ there. rw (number 1 (is_icmp (protocol_at start p) (byte_at p place) there)) word) (λ x y _. rw (b.protocol, x, y) refl)
        | Some (Identifier id) ↦ by_protocol start p (IsNumbered (Some (Identifier id))) (λ is _. rw (number 6 is) ports)
            (λ is _. rw (number 6 is) ports) (λ is. rw (number 17 is) ports) (λ there. rw (b.protocol, b.payload, first, there) refl)
            (λ _ _ none. rw (b.protocol, b.payload, first, none) refl)
      ]

-- ---- the header's fields

named_number : (o : Option ℕ) (xs p : List ℕ) (i : ℕ) → ((k : ℕ) → get_or p k 0 < 256)
    → ((k : ℕ) → i ≤ k → k < i + 4 → get_or xs k 0 ≡ get_or p k 0)
    → write_if_some (λ bytes n. with_u32 bytes i n) xs o ≡ with_u32 xs i (unwrap_or o (u32_at p i))
named_number None xs p i small same = sym (number_stays xs p i small same)
named_number (Some n) xs p i small same = refl

named_ttl : (o : Option ℕ) (start : ℕ) (xs p : List ℕ) → get_or xs (start + 8) 0 ≡ byte_at p (start + 8)
    → write_if_some (with_ttl start) xs o ≡ set xs (start + 8) (unwrap_or o (byte_at p (start + 8)))
named_ttl None start xs p e = sym (ap (λ v. set xs (start + 8) v) (sym e) ∙ set-get_or xs (start + 8) 0)
named_ttl (Some n) start xs p e = refl

replaced_header : (start : ℕ) (p : List ℕ) (change : Change) → IsDatagram start p
    → replaced start p change ≡ write_if_some (with_numbers start)
    (timed start p (unwrap_or change.source (u32_at p (start + 12)))
    (unwrap_or change.destination (u32_at p (start + 16))) (unwrap_or change.ttl (byte_at p (start + 8))))
    change.numbers
replaced_header start p change d =
    grind (arith, change.source, change.destination, named_number, d.small, number_byte_apart, named_ttl, change.ttl)

-- ---- The header checksum.

in_head : (start n i j : ℕ) (xs ys : List ℕ) → head_of start n xs ≡ head_of start n ys → j ≡ start + i → i < n
    → get_or xs j 0 ≡ get_or ys j 0
in_head start n i j xs ys e is lt = sym (byte_of_part xs start n i j is lt) ∙ ap (λ l. get_or l i 0) e ∙ byte_of_part ys start n i j is lt

header_right : (start : ℕ) (p x : List ℕ) (from to ttl : ℕ) → IsDatagram start p
    → head_of start (header_len (drop start p)) x
    ≡ head_of start (header_len (drop start p)) (timed start p from to ttl)
    → update_header_checksum start p x ≡ with_u16 x (start + 10)
    (updated_checksum (combined (pair_words start p from to) (ttl_words start p ttl)) (u16_at p (start + 10)))
header_right start p x from to ttl d same =
    let n = header_len (drop start p) in
    let t = timed start p from to ttl in
    let first : get_or x start 0 ≡ get_or p start 0 =
    in_head start n 0 start x t same (omega arith) (omega (arith, d.long)) ∙ timed_first start p from to ttl in
    let written = timed_written (head_of start n) start p from to d (head_shows (length p) start n (omega (arith, d.whole))) ttl 0 refl (omega arith) d.long in
    update_checksum-is (header_in start) (start + 10) p x _
    (rw (ap (λ k. take k (drop start x)) (same_byte-len start p x first) ∙ same) written.covers)
    (word_stays x p (start + 10) d.small (λ k le lt.
    in_head start n (k - start) k x t same (omega (arith, le)) (omega (arith, d.long, lt))
    ∙ timed_byte start p from to ttl k (inr (omega (arith, le))) (inl (omega (arith, lt)))))

-- ---- the payload

module _ (start : ℕ) (p : List ℕ) (from to ttl : ℕ) (numbers : Option PortsOrIdentifier) (d : IsDatagram start p) where
  abbrev offset : ℕ
  offset = payload_at start p

  abbrev t : List ℕ
  t = timed start p from to ttl

  behind : Behind start p t
  behind = timed_behind start p from to ttl d

  abbrev ports : ℕ × ℕ
  ports = ports_named numbers (u16_at p offset) (u16_at p (offset + 2))

  -- the payload's offset stays
  payload_stays : (q : List ℕ) → get_or q start 0 ≡ get_or t start 0 → payload_at start q ≡ offset
  payload_stays q e = ap (λ n. start + n) (same_byte-len start p q (e ∙ timed_first start p from to ttl))

  pseudo_covered : offset + 4 ≤ length p → Covers (combined (pair_words start p from to) (port_change (u16_at p offset, u16_at p (offset + 2)) ports))
      (pseudo_header_and_payload start p) (pseudo_header_and_payload start (with_ports offset t ports.0 ports.1))
  pseudo_covered room =
      let over = pseudo start offset in
      let two = with_u32 (with_u32 p (start + 12) from) (start + 16) to in
      let past : start + 20 ≤ offset = omega (arith, d.long) in
      let addresses = addresses_written over start p from to d (pair_shows (length p) start offset past (omega (arith, d.whole))) 0 refl (omega arith)
      (omega arith) in
      let timed_too = hidden over p two t (length-set two (start + 8) ttl) (grind (arith, drop-set-lt)) addresses in
      let all = ports_written over start p t behind timed_too (payload_shows (length p) start offset past (omega (arith, d.whole))) 0 (omega arith) refl
      (omega (arith, d.whole)) ports.0 ports.1 room in
      rw (payload_stays (with_ports offset t ports.0 ports.1) (grind (arith, byte_apart)))
      (counted_as _ (combined (pair_words start p from to) (port_change (u16_at p offset, u16_at p (offset + 2)) ports))
      (and_assoc (pair_words start p from to).is_same (u16_at p offset == ports.0) (u16_at p (offset + 2) == ports.1)) (omega arith) all).covers

  carried_covered : (number : ℕ) → offset + 6 ≤ length p → Covers (u16_change (u16_at p (offset + 4)) number) (payload_in start p)
      (payload_in start (with_u16 t (offset + 4) number))
  carried_covered number room =
      let past : start + 20 ≤ offset = omega (arith, d.long) in
      let none = hidden (drop offset) p p t (simp length-set) (timed_rest start p from to ttl offset past) (nothing_written (drop offset) p) in
      rw (payload_stays (with_u16 t (offset + 4) number) (byte_apart t (offset + 4) number start (inl (omega (arith, past)))))
      (alone (identifier_written (drop offset) start p t behind none (rest_shows (length p) offset) 0 (omega arith) refl
      (omega (arith, d.whole)) number room)).covers

  -- a datagram whose fields are these gets them as they are changed
  abbrev IsCarried : TransportFields → Type 0
  IsCarried fields = offset + len_of fields ≤ length p → update_transport_checksum start p (numbered offset t numbers fields)
      ≡ with_transport_fields offset t (changed_transport_fields numbers (pair_words start p from to) fields)

  is_carried : IsCarried (carried_at start p)
  is_carried = by_protocol start p IsCarried
      (λ is cut _. rw (is, lt-leb _ _ cut) refl)
      (λ is room _. rw (is, le-leb _ _ room)
      (update_checksum-is (pseudo_header_and_payload start) (offset + 16) p (with_ports offset t ports.0 ports.1) _
      (pseudo_covered (omega (arith, room))) (kept_past_ports start p t behind ports.0 ports.1 (offset + 16) (omega arith))))
      (λ is room. rw is
      (update_udp_checksum-is (pseudo_header_and_payload start) (offset + 6) p (with_ports offset t ports.0 ports.1) _
      (pseudo_covered (omega (arith, room))) (kept_past_ports start p t behind ports.0 ports.1 (offset + 6) (omega arith))))
      (λ there room. let number = identifier_named numbers (u16_at p (offset + 4)) in rw (is_icmp (protocol_at start p) (byte_at p offset) there)
      (update_checksum-is (payload_in start) (offset + 2) p (with_u16 t (offset + 4) number) _
      (carried_covered number room) (kept_past_identifier start p t behind number)))
      (λ x y _ _.
      let rest : payload_in start t ≡ payload_in start p =
      ap (λ n. drop n t) behind.payload ∙ timed_rest start p from to ttl offset (omega (arith, d.long)) in
      rw (x, y) (either_by (λ q. q ≡ t) (protocol_at start p == 1) _ t
      (update_checksum-kept (payload_in start) (offset + 2) p t (sym rest)) refl))

-- ---- the whole

pub whole_is : (start : ℕ) (p : List ℕ) (change : Change) → IsDatagram start p
    → with_fields start p (changed_fields change (fields_at start p)) ≡ update_checksums start p (replaced start p change)
whole_is start p change d =
    let from = unwrap_or change.source (u32_at p (start + 12)) in
    let to = unwrap_or change.destination (u32_at p (start + 16)) in
    let ttl = unwrap_or change.ttl (byte_at p (start + 8)) in
    let t = timed start p from to ttl in
    let offset = payload_at start p in
    let c = changed_transport_fields change.numbers (pair_words start p from to) (carried_at start p) in
    let x = with_transport_fields offset t c in
    let n = header_len (drop start p) in
    let fields : update_transport_checksum start p (replaced start p change) ≡ x =
    ap (λ l. update_transport_checksum start p l)
    (replaced_header start p change d ∙ numbers_written start p t (timed_behind start p from to ttl d) change.numbers)
    ∙ is_carried start p from to ttl change.numbers d d.whole in
    sym (ap (λ l. update_header_checksum start p l) fields
    ∙ header_right start p x from to ttl d (fields_by (λ q. head_of start n q ≡ head_of start n t) (start + n)
    (λ q k v past h. byte_after q start n k v past ∙ h) offset t c (omega arith) refl))

-- ==== A change that leaves the endpoints as they are writes the TTL and the header checksum alone.

numbers_kept : (numbers : Option PortsOrIdentifier) (from to : ℕ) (fields : TransportFields)
    → keeps_numbers numbers fields ≡ true
    → changed_transport_fields numbers (combined (u32_change from from) (u32_change to to)) fields ≡ fields
numbers_kept numbers from to fields keeps = grind (arith, fields, keeps, nat_tests)

-- the payload's fields, written as they are, where only the TTL is another
carried_kept : (start : ℕ) (p : List ℕ) (ttl : ℕ) → IsDatagram start p
    → with_transport_fields (payload_at start p) (timed start p (u32_at p (start + 12)) (u32_at p (start + 16)) ttl)
    (carried_at start p) ≡ timed start p (u32_at p (start + 12)) (u32_at p (start + 16)) ttl
carried_kept start p ttl d =
    let offset = payload_at start p in
    let t = timed start p (u32_at p (start + 12)) (u32_at p (start + 16)) ttl in
    let b = timed_behind start p (u32_at p (start + 12)) (u32_at p (start + 16)) ttl d in
    let ports = ports_kept_behind start p t b in
    by_protocol start p (λ c. with_transport_fields offset t c ≡ t) (λ _ _. ports)
    (λ _ _. kept_past_ports start p t b _ _ (offset + 16) (omega arith) ∙ ports)
    (λ _. kept_past_ports start p t b _ _ (offset + 6) (omega arith) ∙ ports)
    (λ _. kept_past_identifier start p t b _ ∙ kept_behind start p t b (offset + 4) (omega arith)) (λ _ _ _. refl)

pub own_endpoints : (start : ℕ) (p : List ℕ) (change : Change) → IsDatagram start p → keeps_endpoints change (fields_at start p) ≡ true
    → with_ttl_field start p (fields_at start p) change.ttl ≡ with_fields start p (changed_fields change (fields_at start p))
own_endpoints start p change d keeps =
    let ttl = unwrap_or change.ttl (byte_at p (start + 8)) in
    grind (arith, keeps, and_parts, eqb-true, numbers_kept, carried_kept start p ttl d, number_stays, d.small)

-- ==== The changed words of a datagram under a checksum that covers the whole of it.

-- with 8 bytes after a header all fields are there except the TCP checksum
pub fields_room : (start : ℕ) (p : List ℕ) → payload_at start p + 8 ≤ length p → payload_at start p + len_of (carried_at start p) ≤ length p
fields_room start p room = grind (arith, by_protocol, room, length-drop, nat_tests)

pub fields_exchanged : (a start : ℕ) (p : List ℕ) (change : Change) → start ≡ a + 8 → IsDatagram start p
    → Covers (fields_change (fields_at start p) (changed_fields change (fields_at start p))) (drop a p)
    (drop a (with_fields start p (changed_fields change (fields_at start p))))
fields_exchanged a start p change is d =
    let from = unwrap_or change.source (u32_at p (start + 12)) in
    let to = unwrap_or change.destination (u32_at p (start + 16)) in
    let ttl = unwrap_or change.ttl (byte_at p (start + 8)) in
    let t = timed start p from to ttl in
    let new = changed_transport_fields change.numbers (pair_words start p from to) (carried_at start p) in
    let s = rest_shows (length p) a in
    let timed_too = timed_written (drop a) start p from to d s ttl 8 refl (omega (arith, is)) (omega (arith, is, d.long, d.whole)) in
    let carried = carried_exchanged (drop a) start p t (timed_behind start p from to ttl d) timed_too s
    (8 + header_len (drop start p)) (omega (arith, is)) (omega arith) (omega (arith, is, d.whole)) change.numbers
    (pair_words start p from to) d.whole in
    (word_more (drop a) p d.small s 18 (start + 10) _ (with_transport_fields (payload_at start p) t new) refl (omega (arith, is))
    (omega (arith, is, d.long, d.whole)) (λ k past lt. fields_by (SameAt k t) (suc k) (same_at k t) (payload_at start p) t new (omega (arith, lt, d.long)) refl
    ∙ timed_byte start p from to ttl k (inr (omega (arith, past))) (inl (omega (arith, lt)))) carried).covers
