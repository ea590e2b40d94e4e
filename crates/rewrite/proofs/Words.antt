-- Bytes, words and numbers: what is written, read and summed.
use Rattle.rewrite.specs.declared.fields.Fields.{Fields}
use Rattle.rewrite.specs.steps.Fields.{with_fields, with_transport_fields}
use Rattle.std.proofs.Common.{◌≡◌, ℕ, ◌+◌, ◌-◌, ◌/◌, ◌%◌, ◌<◌, ◌≤◌, ◌⊎◌, List, length, get_or, set, take, drop, ap, refl, ◌∙◌, arith, zero, suc, ◌*◌, [], ◌∷◌}
use Rattle.std.proofs.Common.{Bool, true, false, None, Option, Some}
use Rattle.std.proofs.lemmas.Bool.{and_parts, cond_both, eqb-true}
use Rattle.std.proofs.lemmas.List.{set-get_or, drop-set-add, take-set-le, get_or-take, get_or-drop, get_or-set_other, length-set}
use Rattle.std.proofs.Math.Seq.{take-set-lt}
use Rattle.std.proofs.lemmas.Grind.{common_steps}
use Rattle.byteorder.specs.Endian.{big_number}
use Rattle.ip_headers.specs.Bytes.{u16_at, u32_at, with_u16, with_u32}
use Rattle.ip_headers.specs.Sum.{words_sum, ones_sum_of}
use Rattle.rewrite.specs.Rewritten.{payload_in, pseudo_header_and_payload, replaced, update_checksum}
use Rattle.rewrite.specs.Rewritten.{update_checksums, update_transport_checksum, with_endpoints, with_numbers}
use Rattle.rewrite.specs.Rewritten.{write_if_some}
use Rattle.std.specs.Prelude.{◌==◌, ◌&&◌, nat_le, if◌then◌else◌}
use Rattle.ip_headers.specs.declared.tuple.Tuple.{Tuple}
use Rattle.ip_headers.specs.Header.{payload_at, protocol_at}
use Rattle.rewrite.specs.Endpoints.{between}
use Rattle.rewrite.specs.declared.change.Change.{Change}
use Rattle.rewrite.specs.declared.change.PortsOrIdentifier.{PortsOrIdentifier}
use Rattle.rewrite.specs.declared.change.PortsOrIdentifier.TheVariants.{Ports, Identifier}
use Rattle.rewrite.specs.declared.fields.TransportFields.{TransportFields}
use Rattle.rewrite.specs.declared.fields.TransportFields.TheVariants.{Tcp, Udp, Echo, Other}

-- ==== Writes at offsets, and reads afterwards.

-- ---- reads give what was written, and else what was there

pub word_written : (xs : List ℕ) (i w : ℕ) → i + 1 < length xs → u16_at (with_u16 xs i w) i ≡ w
word_written xs i w lt = grind (arith, common_steps)

pub byte_apart : (xs : List ℕ) (i w k : ℕ) → (k < i) ⊎ (i + 1 < k) → get_or (with_u16 xs i w) k 0 ≡ get_or xs k 0
byte_apart xs i w k apart = grind (arith, common_steps)

pub word_apart : (xs : List ℕ) (i w k : ℕ) → (k + 1 < i) ⊎ (i + 1 < k) → u16_at (with_u16 xs i w) k ≡ u16_at xs k
word_apart xs i w k apart = grind (arith, common_steps)

pub number_byte_apart : (xs : List ℕ) (i n k : ℕ) → (k < i) ⊎ (i + 3 < k) → get_or (with_u32 xs i n) k 0 ≡ get_or xs k 0
number_byte_apart xs i n k apart = grind (arith, common_steps)

pub length-word : (xs : List ℕ) (i w : ℕ) → length (with_u16 xs i w) ≡ length xs
length-word xs i w = grind (arith, common_steps)

pub number_written : (xs : List ℕ) (i n : ℕ) → i + 3 < length xs → u32_at (with_u32 xs i n) i ≡ n
number_written xs i n lt = grind (arith, word_apart, word_written, length-word)

-- ---- writing what is there

-- a word and a number are as their bytes
pub word_same : (xs ys : List ℕ) (k : ℕ) → ((j : ℕ) → k ≤ j → j < k + 2 → get_or xs j 0 ≡ get_or ys j 0)
    → u16_at xs k ≡ u16_at ys k
word_same xs ys k same = rw (same k (omega arith) (omega arith), same (k + 1) (omega arith) (omega arith)) refl

pub number_same : (xs ys : List ℕ) (k : ℕ) → ((j : ℕ) → k ≤ j → j < k + 4 → get_or xs j 0 ≡ get_or ys j 0)
    → u32_at xs k ≡ u32_at ys k
number_same xs ys k same = grind arith

-- a word that stays is as if it were written
pub word_stays : (xs p : List ℕ) (k : ℕ) → ((j : ℕ) → get_or p j 0 < 256)
    → ((j : ℕ) → k ≤ j → j < k + 2 → get_or xs j 0 ≡ get_or p j 0) → with_u16 xs k (u16_at p k) ≡ xs
word_stays xs p k small same =
    let high : u16_at p k / 256 ≡ get_or xs k 0 = omega (arith, same k (omega arith) (omega arith), small (k + 1)) in
    let low : u16_at p k % 256 ≡ get_or xs (k + 1) 0 = omega (arith, same (k + 1) (omega arith) (omega arith), small (k + 1)) in
    rw (high, low, set-get_or xs k 0) (set-get_or xs (k + 1) 0)

pub number_stays : (xs p : List ℕ) (k : ℕ) → ((j : ℕ) → get_or p j 0 < 256)
    → ((j : ℕ) → k ≤ j → j < k + 4 → get_or xs j 0 ≡ get_or p j 0) → with_u32 xs k (u32_at p k) ≡ xs
number_stays xs p k small same =
    let below : u16_at p (k + 2) < 65536 = omega (arith, small (k + 2), small (k + 2 + 1)) in
    let high : u32_at p k / 65536 ≡ u16_at p k = omega (arith, below) in
    let low : u32_at p k % 65536 ≡ u16_at p (k + 2) = omega (arith, below) in
    rw (high, low, word_stays xs p k small (λ j le lt. same j le (omega (arith, lt))))
    (word_stays xs p (k + 2) small (λ j le lt. same j (omega (arith, le)) (omega (arith, lt))))

-- ---- a part of the bytes after a write within it, before it or after it

pub byte_in : (xs : List ℕ) (a n i j v : ℕ) → j ≡ a + i → i < n → take n (drop a (set xs j v)) ≡ set (take n (drop a xs)) i v
byte_in xs a n i j v is lt = rw is (ap (λ l. take n l) (drop-set-add a xs i v) ∙ take-set-lt n (drop a xs) i v lt)

pub byte_after : (xs : List ℕ) (a n j v : ℕ) → a + n ≤ j → take n (drop a (set xs j v)) ≡ take n (drop a xs)
byte_after xs a n j v le =
    let is : j ≡ a + (j - a) = omega (arith, le) in
    rw is (ap (λ l. take n l) (drop-set-add a xs (j - a) v) ∙ take-set-le n (drop a xs) (j - a) v (omega (arith, le)))

-- ---- reads from a part

pub byte_of_part : (xs : List ℕ) (a n i j : ℕ) → j ≡ a + i → i < n → get_or (take n (drop a xs)) i 0 ≡ get_or xs j 0
byte_of_part xs a n i j is lt = rw is (get_or-take n (drop a xs) i 0 lt ∙ get_or-drop a xs i 0)

pub word_of_rest : (xs : List ℕ) (a i j : ℕ) → j ≡ a + i → u16_at (drop a xs) i ≡ u16_at xs j
word_of_rest xs a i j is = rw is (grind (arith, common_steps))

-- a word read from the bytes from an offset on
pub word_read : (bytes : List ℕ) (i word : ℕ) → i + 2 ≤ length bytes
    → word ≡ big_number 2 (take (length bytes - i) (drop i bytes)) → word ≡ u16_at bytes i
word_read bytes i word whole read = grind (arith, common_steps, read)

-- ==== What a write does to a sum of words.

-- a high byte counts 256 times
pub even_weighs : (xs : List ℕ) (i v : ℕ) → i % 2 ≡ 0 → i < length xs
    → words_sum (set xs i v) + get_or xs i 0 * 256 ≡ words_sum xs + v * 256
even_weighs [] i v even lt = absurd (omega arith)
even_weighs (x ∷ xs) (suc zero) v even lt = absurd (omega (arith, even))
even_weighs (x ∷ []) (suc (suc i)) v even lt = absurd (omega arith)
even_weighs (x ∷ []) zero v even lt = omega arith
even_weighs (x ∷ y ∷ xs) zero v even lt = omega arith
even_weighs (x ∷ y ∷ xs) (suc (suc i)) v even lt = omega (arith, even_weighs xs i v (omega (arith, even)) (omega arith))

pub odd_weighs : (xs : List ℕ) (i v : ℕ) → i % 2 ≡ 1 → i < length xs
    → words_sum (set xs i v) + get_or xs i 0 * 1 ≡ words_sum xs + v * 1
odd_weighs xs zero v odd lt = absurd (omega (arith, odd))
odd_weighs [] i v odd lt = absurd (omega arith)
odd_weighs (x ∷ []) (suc i) v odd lt = absurd (omega arith)
odd_weighs (x ∷ y ∷ xs) (suc zero) v odd lt = omega arith
odd_weighs (x ∷ y ∷ xs) (suc (suc i)) v odd lt = omega (arith, odd_weighs xs i v (omega (arith, odd)) (omega arith))

first_counts : (xs : List ℕ) → get_or xs 0 0 ≤ words_sum xs
first_counts [] = omega arith
first_counts (x ∷ []) = omega arith
first_counts (x ∷ y ∷ xs) = omega arith

-- a sum of all ones is kept by what keeps the congruence and a byte that isn't 0
pub still_ones : (xs ys : List ℕ) → words_sum ys % 65535 ≡ words_sum xs % 65535 → ones_sum_of xs ≡ 65535
    → 0 < get_or ys 0 0 → ones_sum_of ys ≡ 65535
still_ones xs ys same ones some = grind (arith, first_counts ys)

-- ==== What holds of a packet, and stays when a byte from an offset on is written, holds of the rewritten packet.

module _ (P : List ℕ → Type 0) where
  pub either_by : (b : Bool) (xs ys : List ℕ) → P xs → P ys → P (if b then xs else ys)
  either_by true xs ys one other = one
  either_by false xs ys one other = other

  pub named_by : {A : Type 0} (write : List ℕ → A → List ℕ) (bytes : List ℕ) (o : Option A)
      → ((x : A) → P (write bytes x)) → P bytes → P (write_if_some write bytes o)
  named_by write bytes None some none = none
  named_by write bytes (Some x) some none = some x

  -- a checksum is written at its place, if at all
  pub update_by : (over : List ℕ → List ℕ) (offset : ℕ) (old now : List ℕ) → ((w : ℕ) → P (with_u16 now offset w)) → P now
      → P (update_checksum over offset old now)
  update_by over offset old now one h = search (either_by, one)

  pub carried_by : (start : ℕ) (old now : List ℕ)
      → (protocol_at start old ≡ 6 → (w : ℕ) → P (with_u16 now (payload_at start old + 16) w))
      → (protocol_at start old ≡ 17 → (w : ℕ) → P (with_u16 now (payload_at start old + 6) w))
      → (protocol_at start old ≡ 1 → (w : ℕ) → P (with_u16 now (payload_at start old + 2) w)) → P now
      → P (update_transport_checksum start old now)
  carried_by start old now tcp udp icmp h =
      let number = protocol_at start old in
      let offset = payload_at start old in
      cond_both (number == 6 && nat_le (offset + 18) (length old)) _ _ P
      (λ is. update_by (pseudo_header_and_payload start) (offset + 16) old now (tcp (eqb-true number 6 (and_parts (number == 6) _ is).0)) h)
      (λ _. cond_both (number == 17) _ _ P (λ is. let one = udp (eqb-true number 17 is) in search (either_by, one))
      (λ _. cond_both (number == 1) _ _ P (λ is. update_by (payload_in start) (offset + 2) old now (icmp (eqb-true number 1 is)) h) (λ _. h)))

  module _ (low : ℕ) (byte : (bytes : List ℕ) (k v : ℕ) → low ≤ k → P bytes → P (set bytes k v)) where
    pub fields_by : (offset : ℕ) (t : List ℕ) (c : TransportFields) → low ≤ offset → P t → P (with_transport_fields offset t c)
    fields_by offset t (Tcp from to None) le h = search (arith, byte)
    fields_by offset t (Tcp from to (Some sum)) le h = search (arith, byte)
    fields_by offset t (Udp from to sum) le h = search (arith, byte)
    fields_by offset t (Echo number sum) le h = search (arith, byte)
    fields_by offset t Other le h = h

    pub all_fields_by : (start : ℕ) (p : List ℕ) (fields : Fields) → low ≤ start → P p → P (with_fields start p fields)
    all_fields_by start p fields le h = search (arith, byte, fields_by)

    pub numbers_by : (start : ℕ) (bytes : List ℕ) (numbers : PortsOrIdentifier) → low ≤ payload_at start bytes → P bytes
        → P (with_numbers start bytes numbers)
    numbers_by start bytes (Ports from to) le h = search (arith, byte, either_by)
    numbers_by start bytes (Identifier number) le h = search (arith, byte, either_by)

    pub replaced_by : (start : ℕ) (p : List ℕ) (change : Change) → low ≤ start → P p → P (replaced start p change)
    replaced_by start p change le h = search (arith, byte, named_by, numbers_by)

    pub transport_by : (start : ℕ) (old now : List ℕ) → low ≤ payload_at start old → P now → P (update_transport_checksum start old now)
    transport_by start old now le h = search (arith, byte, either_by)

    pub updated_by : (start : ℕ) (old now : List ℕ) → low ≤ start → P now → P (update_checksums start old now)
    updated_by start old now le h = let carried = transport_by start old now (omega (arith, le)) h in search (arith, byte, either_by)

    pub ends_by : (start : ℕ) (p : List ℕ) (t : Tuple) → low ≤ start → P p → P (with_endpoints start p t)
    ends_by start p t le h = updated_by start p _ le (replaced_by start p (between t None) le h)

-- as its length
abbrev pub AsLong : List ℕ → List ℕ → Type 0
AsLong p q = length q ≡ length p

pub as_long : (p q : List ℕ) (k v : ℕ) → 0 ≤ k → AsLong p q → AsLong p (set q k v)
as_long p q k v le h = length-set q k v ∙ h

-- and a byte before the offset
abbrev pub SameAt : ℕ → List ℕ → List ℕ → Type 0
SameAt k p q = get_or q k 0 ≡ get_or p k 0

pub same_at : (i : ℕ) (p q : List ℕ) (k v : ℕ) → suc i ≤ k → SameAt i p q → SameAt i p (set q k v)
same_at i p q k v le h = get_or-set_other q k i v 0 (omega (arith, le)) ∙ h
