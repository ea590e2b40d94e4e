-- Updates of checksums, and what written bytes change under them.
use Rattle.std.proofs.Math.Bool.{or-false}
use Rattle.std.proofs.Common.{inl, ◌&&◌, ◌-◌, ◌++◌, take, length-take, length-append, inr, ◌≡◌, ℕ, ◌+◌, List, [], ◌∷◌, Bool, true, refl, sym, ap, arith}
use Rattle.std.proofs.Common.{◌≢◌, ◌%◌, ◌<◌, length, ◌*◌, ◌/◌, ◌≤◌, length-drop, get_or, set, drop, ◌∙◌}
use Rattle.rewrite.proofs.Words.{byte_in, byte_after, byte_apart, even_weighs, odd_weighs}
use Rattle.std.proofs.lemmas.List.{length-set, set-append_left, set-append_right, drop-set-lt, get_or-set_other, drop-set-add, get_or-set_same, set-get_or}
use Rattle.std.specs.Prelude.{◌==◌, if◌then◌else◌}
use Rattle.std.proofs.lemmas.Bool.{eqb-true, eq-eqb, and_parts, cond_both, ne_eqb, and_from}
use Rattle.list_laws.specs.Tests.{same-tests}
use Rattle.ip_headers.specs.Sum.{words_sum}
use Rattle.ip_headers.specs.Bytes.{u16_at, with_u16, u32_at, with_u32}
use Rattle.rewrite.specs.declared.checksum.ChecksumDelta.{ChecksumDelta}
use Rattle.rewrite.specs.Rewritten.{corrected, or_all_ones, update_checksum, update_udp_checksum, same_bytes}
use Rattle.rewrite.specs.steps.Fields.{updated_checksum, updated_udp_checksum, combined, u32_change, u16_change}

-- ==== An update for the changed words alone is an update for all bytes under the checksum.

-- ---- equal bytes

same_bytes-itself : (xs : List ℕ) → same_bytes xs xs ≡ true
same_bytes-itself [] = refl
same_bytes-itself (x ∷ xs) = rw (eq-eqb x x refl, same_bytes-itself xs) refl

pub same_bytes-true : (xs ys : List ℕ) → same_bytes xs ys ≡ true → xs ≡ ys
same_bytes-true [] [] h = refl
same_bytes-true [] (y ∷ ys) h = cc
same_bytes-true (x ∷ xs) [] h = cc
same_bytes-true (x ∷ xs) (y ∷ ys) h = grind (arith, same_bytes-true xs ys, and_parts, eqb-true, h)

same_bytes-from : (xs ys : List ℕ) → xs ≡ ys → same_bytes xs ys ≡ true
same_bytes-from xs ys e = rw e (same_bytes-itself ys)

-- ---- the incremental update

-- the relation between the changed words and the bytes that the checksum covers
pub record Covers (words : ChecksumDelta) (before after : List ℕ) : Type 0 where
  pub same : words.is_same ≡ true → before ≡ after
  pub other : before ≡ after → words.is_same ≡ true
  pub sum : words_sum after + words.old ≡ words_sum before + words.new

same_is : (words : ChecksumDelta) (before after : List ℕ) → Covers words before after → same_bytes before after ≡ words.is_same
same_is words before after c = same-tests (same_bytes before after) words.is_same
    (λ h. c.other (same_bytes-true before after h)) (λ h. same_bytes-from before after (c.same h))

module _ (over : List ℕ → List ℕ) (offset : ℕ) (old now : List ℕ) (words : ChecksumDelta) (c : Covers words (over old) (over now))
    (kept : with_u16 now offset (u16_at old offset) ≡ now) where
  corrected_is : corrected (u16_at old offset) (words_sum (over old)) (words_sum (over now)) ≡ corrected (u16_at old offset) words.old words.new
  corrected_is = omega (arith, c.sum)

  pub update_checksum-is : update_checksum over offset old now ≡ with_u16 now offset (updated_checksum words (u16_at old offset))
  update_checksum-is = rw (same_is words (over old) (over now) c) (grind (arith, kept, corrected_is))

  pub update_udp_checksum-is : update_udp_checksum over offset old now
      ≡ with_u16 now offset (updated_udp_checksum words (u16_at old offset))
  update_udp_checksum-is = rw (same_is words (over old) (over now) c) (grind (arith, kept, corrected_is))

-- it stays where none of the covered bytes changed
pub update_checksum-kept : (over : List ℕ → List ℕ) (offset : ℕ) (old now : List ℕ) → over old ≡ over now
    → update_checksum over offset old now ≡ now
update_checksum-kept over offset old now e = rw (same_bytes-from (over old) (over now) e) refl

-- ==== Bytes written one after another, and the words that they change under a checksum.

-- ---- one byte

-- a byte that counts `m` times in its word
abbrev byte_change : ℕ → ℕ → ℕ → ChecksumDelta
byte_change m old new = record { old = old * m; new = new * m; is_same = old == new }

byte_covered : (w : ChecksumDelta) (m : ℕ) (xs ys : List ℕ) (i v old : ℕ)
    → words_sum (set ys i v) + get_or ys i 0 * m ≡ words_sum ys + v * m → i < length ys → get_or xs i 0 ≡ old → get_or ys i 0 ≡ old
    → Covers w xs ys → Covers (combined w (byte_change m old v)) xs (set ys i v)
byte_covered w m xs ys i v old weighs lt was is c =
    grind (arith, and_parts, c.same, set-get_or, eqb-true, get_or-set_same, get_or, and_from, c.other, eq-eqb, c.sum, weighs)

-- ---- two digits are as their number

number_digits : (b : Bool) (x y v : ℕ) → y < 65536 → (b && x == v / 65536 && y == v % 65536) ≡ (b && x * 65536 + y == v)
number_digits b x y v small = grind arith

-- ---- what a checksum covers, of lists of one length

-- the bytes from an offset on stand under it from `base` on
pub record Shows (over : List ℕ → List ℕ) (size low n base : ℕ) : Type 0 where
  pub written : (q : List ℕ) (v i j : ℕ) → length q ≡ size → j ≡ low + i → i < n → over (set q j v) ≡ set (over q) (base + i) v
  pub room : (q : List ℕ) (i : ℕ) → length q ≡ size → i < n → base + i < length (over q)

none_before : (i : ℕ) → 0 + i ≡ i
none_before i = omega arith

pub rest_shows : (size a : ℕ) → Shows (drop a) size a (size - a) 0
rest_shows size a = grind (arith, none_before, drop-set-add, length-drop)

abbrev pub head_of : ℕ → ℕ → List ℕ → List ℕ
head_of start n p = take n (drop start p)

pub head_shows : (size start n : ℕ) → start + n ≤ size → Shows (head_of start n) size start n 0
head_shows size start n room = grind (arith, none_before, byte_in, length-take, length-drop)

-- the addresses, and all from an offset on
abbrev pub pseudo : ℕ → ℕ → List ℕ → List ℕ
pseudo start offset p = take 8 (drop (start + 12) p) ++ drop offset p

pub append_byte : (xs ys : List ℕ) (k v : ℕ) → length xs ≡ 8 → set (xs ++ ys) (8 + k) v ≡ xs ++ set ys k v
append_byte xs ys k v len =
    let back : 8 + k - 8 ≡ k = omega arith in
    set-append_right xs ys 8 (8 + k) v len (omega arith) ∙ ap (λ j. xs ++ set ys j v) back

module _ (size start offset : ℕ) (past : start + 20 ≤ offset) (room : offset ≤ size) where
  addresses_len : (q : List ℕ) → length q ≡ size → length (take 8 (drop (start + 12) q)) ≡ 8
  addresses_len q len = omega (arith, length-take 8 (drop (start + 12) q), length-drop (start + 12) q, past, room, len)

  pseudo_len : (q : List ℕ) → length q ≡ size → length (pseudo start offset q) ≡ 8 + (size - offset)
  pseudo_len q len = omega (arith, length-append (take 8 (drop (start + 12) q)) (drop offset q), addresses_len q len, length-drop offset q, len)

  pub pair_shows : Shows (pseudo start offset) size (start + 12) 8 0
  pair_shows = record {
    written = λ q v i j len is lt.
        rw (none_before i, byte_in q (start + 12) 8 i j v is lt, drop-set-lt offset q j v (omega (arith, is, lt, past)))
        (sym (set-append_left _ (drop offset q) i v (omega (arith, addresses_len q len, lt))));
    room = λ q i len lt. omega (arith, pseudo_len q len, lt);
  }

  pub payload_shows : Shows (pseudo start offset) size offset (size - offset) 8
  payload_shows = record {
    written = λ q v i j len is lt.
        rw (byte_after q (start + 12) 8 j v (omega (arith, is, past)), is, drop-set-add offset q i v)
        (sym (append_byte _ (drop offset q) i v (addresses_len q len)));
    room = λ q i len lt. omega (arith, pseudo_len q len, lt);
  }

-- ---- bytes written into `p`, and the words that they change under a checksum

pub record Writes (over : List ℕ → List ℕ) (p : List ℕ) (w : ChecksumDelta) (q : List ℕ) : Type 0 where
  pub len : length q ≡ length p
  pub covers : Covers w (over p) (over q)

abbrev pub no_change : ChecksumDelta
no_change = record { old = 0; new = 0; is_same = true }

pub nothing_written : (over : List ℕ → List ℕ) (p : List ℕ) → Writes over p no_change p
nothing_written over p = record { len = refl; covers = record { same = λ _. refl; other = λ _. refl; sum = refl } }

-- the same change, said otherwise
pub counted_as : (v w : ChecksumDelta) {over : List ℕ → List ℕ} {p q : List ℕ} → v.is_same ≡ w.is_same → v.old + w.new ≡ w.old + v.new
    → Writes over p v q → Writes over p w q
counted_as v w same sums c = grind arith

pub alone : {over : List ℕ → List ℕ} {p q : List ℕ} {w : ChecksumDelta} → Writes over p (combined no_change w) q → Writes over p w q
alone {over} {p} {q} {w} c = counted_as (combined no_change w) w refl (omega arith) c

-- a write beside what the checksum covers
pub hidden : (over : List ℕ → List ℕ) (p : List ℕ) {w : ChecksumDelta} (q r : List ℕ) → length r ≡ length q → over r ≡ over q
    → Writes over p w q → Writes over p w r
hidden over p q r len is c = record { len = len ∙ c.len; covers = rw is c.covers }

-- an unchanged byte
abbrev pub Stays : List ℕ → List ℕ → ℕ → Type 0
Stays p q j = get_or q j 0 ≡ get_or p j 0

module _ (over : List ℕ → List ℕ) (p : List ℕ) {low n base : ℕ} (s : Shows over (length p) low n base) where
  shown : (q : List ℕ) (i j : ℕ) → length q ≡ length p → j ≡ low + i → i < n → get_or (over q) (base + i) 0 ≡ get_or q j 0
  shown q i j len is lt =
      ap (λ l. get_or l (base + i) 0) (ap over (sym (set-get_or q j 0)) ∙ s.written q (get_or q j 0) i j len is lt)
      ∙ get_or-set_same (over q) (base + i) (get_or q j 0) 0 (s.room q i len lt)

  byte_more : (m i j v : ℕ) {w : ChecksumDelta} (q : List ℕ)
      → ((xs : List ℕ) → base + i < length xs → words_sum (set xs (base + i) v) + get_or xs (base + i) 0 * m ≡ words_sum xs + v * m)
      → j ≡ low + i → i < n → Stays p q j → Writes over p w q
      → Writes over p (combined w (byte_change m (get_or p j 0) v)) (set q j v)
  byte_more m i j v {w} q weighs is lt stays c = record {
    len = length-set q j v ∙ c.len;
    covers = rw (s.written q v i j c.len is lt) (byte_covered w m (over p) (over q) (base + i) v (get_or p j 0)
        (weighs (over q) (s.room q i c.len lt)) (s.room q i c.len lt) (shown p i j refl is lt) (shown q i j c.len is lt ∙ stays) c.covers);
  }

  -- the high byte of a word
  pub high_byte_more : (i j v : ℕ) {w : ChecksumDelta} (q : List ℕ) → (base + i) % 2 ≡ 0 → j ≡ low + i → i < n → Stays p q j
      → Writes over p w q → Writes over p (combined w (u16_change (get_or p j 0 * 256) (v * 256))) (set q j v)
  high_byte_more i j v {w} q even is lt stays c =
      counted_as _ _ (grind arith) refl (byte_more 256 i j v q (λ xs. even_weighs xs (base + i) v even) is lt stays c)

  -- both bytes of a word
  bytes_more : (i j v : ℕ) {w : ChecksumDelta} (q : List ℕ) → (base + i) % 2 ≡ 0 → j ≡ low + i → i + 1 < n
      → ((k : ℕ) → j ≤ k → k < j + 2 → Stays p q k) → Writes over p w q
      → Writes over p (combined (combined w (byte_change 256 (get_or p j 0) (v / 256)))
      (byte_change 1 (get_or p (j + 1) 0) (v % 256))) (with_u16 q j v)
  bytes_more i j v q even is lt stays c =
      byte_more 1 (i + 1) (j + 1) (v % 256) (set q j (v / 256)) (λ xs. odd_weighs xs (base + (i + 1)) (v % 256) (omega (arith, even)))
      (omega (arith, is)) lt
      (get_or-set_other q j (j + 1) (v / 256) 0 (omega arith) ∙ stays (j + 1) (omega arith) (omega arith))
      (byte_more 256 i j (v / 256) q (λ xs. even_weighs xs (base + i) (v / 256) even) is (omega (arith, lt)) (stays j (omega arith) (omega arith)) c)

module _ (over : List ℕ → List ℕ) (p : List ℕ) (small : (k : ℕ) → get_or p k 0 < 256) {low n base : ℕ}
    (s : Shows over (length p) low n base) where
  pub word_more : (i j v : ℕ) {w : ChecksumDelta} (q : List ℕ) → (base + i) % 2 ≡ 0 → j ≡ low + i → i + 1 < n
      → ((k : ℕ) → j ≤ k → k < j + 2 → Stays p q k) → Writes over p w q
      → Writes over p (combined w (u16_change (u16_at p j) v)) (with_u16 q j v)
  word_more i j v {w} q even is lt stays c =
      counted_as _ _ (grind (arith, small (j + 1))) (omega arith)
      (bytes_more over p s i j v q even is lt stays c)

  pub number_more : (i j v : ℕ) {w : ChecksumDelta} (q : List ℕ) → (base + i) % 2 ≡ 0 → j ≡ low + i → i + 3 < n
      → ((k : ℕ) → j ≤ k → k < j + 4 → Stays p q k) → Writes over p w q
      → Writes over p (combined w (u32_change (u32_at p j) v)) (with_u32 q j v)
  number_more i j v {w} q even is lt stays c =
      let one = word_more i j (v / 65536) q even is (omega (arith, lt)) (λ k le lt. stays k le (omega (arith, lt))) c in
      let two = word_more (i + 2) (j + 2) (v % 65536) (with_u16 q j (v / 65536)) (omega (arith, even)) (omega (arith, is))
      (omega (arith, lt)) (λ k le lt. byte_apart q j (v / 65536) k (inr (omega (arith, le)))
      ∙ stays k (omega (arith, le)) (omega (arith, lt))) one in
      let below : u16_at p (j + 2) < 65536 = omega (arith, small (j + 2), small (j + 2 + 1)) in
      counted_as _ _ (number_digits w.is_same (u16_at p j) (u16_at p (j + 2)) v below) (omega (arith, below)) two

-- ==== A checksum update keeps the sum of what it covers, modulo 65535.

-- the checksum's word stands under it, at an offset that the first byte determines
module _ (over view : List ℕ → List ℕ) (old now : List ℕ) (fixed : (q : List ℕ) → get_or q 0 0 ≡ get_or old 0 0 → over q ≡ view q)
    {low n base : ℕ} (s : Shows view (length now) low n base) (i offset : ℕ) (even : (base + i) % 2 ≡ 0) (is : offset ≡ low + i)
    (room : i + 1 < n) (past : 0 < offset) (first : get_or now 0 0 ≡ get_or old 0 0) (same : u16_at now offset ≡ u16_at old offset) where
  written_sum : (w : ℕ) → words_sum (over (with_u16 now offset w)) + u16_at old offset ≡ words_sum (over now) + w
  written_sum w = rw (fixed (with_u16 now offset w) (byte_apart now offset w 0 (inl past) ∙ first), fixed now first, sym same)
      (omega (arith, (bytes_more view now s i offset w now even is room (λ _ _ _. refl) (nothing_written view now)).covers.sum))

  by_same : (w : ℕ) → words_sum (over (with_u16 now offset w)) % 65535 ≡ words_sum (over old) % 65535
      → words_sum (over (if same_bytes (over old) (over now) then now else with_u16 now offset w)) % 65535
      ≡ words_sum (over old) % 65535
  by_same w keeps = cond_both (same_bytes (over old) (over now)) now (with_u16 now offset w)
      (λ l. words_sum (over l) % 65535 ≡ words_sum (over old) % 65535)
      (λ e. ap (λ l. words_sum l % 65535) (sym (same_bytes-true (over old) (over now) e))) (λ _. keeps)

  pub update_keeps_sum : words_sum (over (update_checksum over offset old now)) % 65535 ≡ words_sum (over old) % 65535
  update_keeps_sum = let e = written_sum (corrected (u16_at old offset) (words_sum (over old)) (words_sum (over now))) in by_same _ (omega (arith, e))

  pub udp_update_keeps_sum : u16_at old offset ≢ 0
      → words_sum (over (update_udp_checksum over offset old now)) % 65535 ≡ words_sum (over old) % 65535
  udp_update_keeps_sum made = rw (ne_eqb _ _ made, or-false (same_bytes (over old) (over now)))
      (let e = written_sum (or_all_ones (corrected (u16_at old offset) (words_sum (over old)) (words_sum (over now)))) in by_same _ (grind (arith, e)))
