-- A bitmap that counts its set bits, and the search through its words.
use Rattle.std.proofs.Common.{◌≡◌, ℕ, ◌+◌, ◌-◌, ◌*◌, ◌/◌, ◌%◌, ◌^◌, ◌<◌, ◌≤◌, min, Bool, false, cond, ltb}
use Rattle.std.proofs.Common.{List, get_or, Some, None, refl, sym, ap, subst, ◌∙◌, ⊎_elim, arith, bit_and}
use Rattle.std.proofs.Common.{w64, ◌≢◌, zero, true, length, set, replicate, bit_or, get_or-set_same}
use Rattle.std.proofs.Common.{get_or-set_other, suc}
use Rattle.std.specs.Prelude.{◌==◌}
use Rattle.std.specs.Int.{bit_at, bit_not, trailing_zeros}
use Rattle.std.proofs.lemmas.Bool.{cases_lt, ltb-true, ltb-false, cond_both, cases_eq, eq-eqb, ne_eqb}
use Rattle.std.proofs.lemmas.Bool.{and_parts, eqb-true, OnTrue_from, OnFalse_from, eqb-false}
use Rattle.std.proofs.lemmas.Nat.{and_le_l, and_le_r, div-mul-add, mod-mul-add}
use Rattle.std.proofs.lemmas.Nat.Bits.{bit_at_and, bit_at-zero, bit_at-lt, bit_at-trailing_zeros, ones_shl}
use Rattle.std.proofs.lemmas.Nat.Bits.{bit_at_mask_inside, bit_at_mask_below, bit_at_set_same}
use Rattle.std.proofs.lemmas.Nat.Bits.{bit_at_set_other, bit_at_clear_same, bit_at_clear_other, shr_and_one}
use Rattle.port_pool.specs.steps.First.{NoneWithin, IsFirst, is_open}
use Rattle.std.proofs.lemmas.List.{get_or-replicate, get_or_past, length-replicate, get_or_default}
use Rattle.std.proofs.lemmas.List.{length-set}
use Rattle.port_pool.specs.steps.Bits.{bit, count_below, IsCounted}
use Rattle.std.specs.List.{list_all, range_with_len}
use Rattle.std.specs.Bool.{OnTrue, OnFalse}

-- ==== A search through words for a bit.

-- w has the bits that p has in word i, from `from` on
pub record ShowsWord (p : ℕ → Bool) (from i w : ℕ) : Type 0 where
  pub matches_parity : w < 2 ^ 64
  pub here : (b : ℕ) → b < 64 → from ≤ i * 64 + b → p (i * 64 + b) ≡ (bit_at w b == 1)
  pub early : (b : ℕ) → b < 64 → i * 64 + b < from → bit_at w b ≡ 0

-- the number k of word i
split_at : (P : ℕ → Type 0) (i k : ℕ) → i * 64 ≤ k → k < i * 64 + 64 → P (i * 64 + (k - i * 64)) → P k
split_at P i k low high h = let e : i * 64 + (k - i * 64) ≡ k = omega arith in subst P e h

-- nothing passes before the word, nor up to b in it
blocked : (p : ℕ → Bool) (from i w n : ℕ) → ShowsWord p from i w → NoneWithin p from (i * 64) → n ≤ 64
    → ((b : ℕ) → b < n → bit_at w b ≡ 0) → NoneWithin p from (i * 64 + n)
blocked p from i w n s none within zeros k low high =
    ⊎_elim
    (λ (lt : k < i * 64). none k low lt)
    (λ (ge : i * 64 ≤ k). split_at (λ k. p k ≡ false) i k ge (omega arith)
    (s.here (k - i * 64) (omega arith) (omega arith) ∙ ap (λ n. n == 1) (zeros (k - i * 64) (omega arith))))
    (cases_lt k (i * 64))

-- an empty word
pub missed : (p : ℕ → Bool) (from i w : ℕ) → ShowsWord p from i w → NoneWithin p from (i * 64) → w ≡ 0 → NoneWithin p from (i * 64 + 64)
missed p from i w s none empty = blocked p from i w 64 s none (omega arith) (λ b _. ap (λ n. bit_at n b) empty ∙ bit_at-zero b)

-- the lowest bit of the first word that has one
pub met : (p : ℕ → Bool) (from i w to : ℕ) → ShowsWord p from i w → NoneWithin p from (i * 64) → 0 < w
    → IsFirst p from to (cond (ltb (i * 64 + trailing_zeros w64 w) to) (Some (i * 64 + trailing_zeros w64 w)) None)
met p from i w to s none some =
    let low = bit_at-trailing_zeros w64 w some s.matches_parity in
    let before = blocked p from i w (trailing_zeros w64 w) s none (omega (arith, low.0)) low.2 in
    let above : from ≤ i * 64 + trailing_zeros w64 w = grind (arith, s.early (trailing_zeros w64 w) low.0, low.1) in
    cond_both (ltb (i * 64 + trailing_zeros w64 w) to) (Some (i * 64 + trailing_zeros w64 w)) None (IsFirst p from to)
    (λ lt. record {
      above = above;
      below = ltb-true (i * 64 + trailing_zeros w64 w) to lt;
      passes = s.here (trailing_zeros w64 w) low.0 above ∙ ap (λ n. n == 1) low.1;
      before = before;
    })
    (λ ge k a b. let le = ltb-false (i * 64 + trailing_zeros w64 w) to ge in before k a (omega arith))

-- ---- the words of a search for clear bits

-- word i's clear bits that the mask has, and of the first word those from `from` on
abbrev pub later_word : List ℕ → ℕ → ℕ → ℕ
later_word ws mask i = bit_and (bit_not w64 (get_or ws i 0)) mask

abbrev pub first_word : List ℕ → ℕ → ℕ → ℕ
first_word ws mask from = bit_and (later_word ws mask (from / 64)) ((2 ^ 64 - 1) * 2 ^ (from % 64) % 2 ^ 64)

module _ (ws : List ℕ) (mask : ℕ) where
  open_at : (i b : ℕ) → b < 64 → is_open ws mask (i * 64 + b) ≡ (bit_at (bit_and (bit_not w64 (get_or ws i 0)) mask) b == 1)
  unfolding is_open
  open_at i b small = rw (div-mul-add i 64 b small, mod-mul-add i 64 b small) refl

  pub shows_later : (from i : ℕ) → mask < 2 ^ 64 → from ≤ i * 64 → ShowsWord (is_open ws mask) from i (later_word ws mask i)
  shows_later from i matches_parity after = record {
    matches_parity = omega (arith, and_le_r (bit_not w64 (get_or ws i 0)) mask);
    here = λ b small _. open_at i b small;
    early = λ b _ lt. absurd (omega arith);
  }

  pub shows_first : (from : ℕ) → mask < 2 ^ 64 → ShowsWord (is_open ws mask) from (from / 64) (first_word ws mask from)
  shows_first from matches_parity =
      let word = bit_and (bit_not w64 (get_or ws (from / 64) 0)) mask in
      let within : from % 64 ≤ 64 = omega arith in
      rw (ones_shl 64 (from % 64) within) record {
        matches_parity = omega (arith, and_le_l word (2 ^ 64 - 2 ^ (from % 64)), and_le_r (bit_not w64 (get_or ws (from / 64) 0)) mask);
        here = λ b small after.
            let inside : from % 64 ≤ b = omega arith in
            open_at (from / 64) b small ∙ ap (λ n. n == 1)
            (sym (bit_at_and word (2 ^ 64 - 2 ^ (from % 64)) b
            ∙ ap (min (bit_at word b)) (bit_at_mask_inside (from % 64) 64 b inside small)
            ∙ omega (arith, bit_at-lt word b)));
        early = λ b _ lt.
            let below : b < from % 64 = omega arith in
            bit_at_and word (2 ^ 64 - 2 ^ (from % 64)) b
            ∙ ap (min (bit_at word b)) (bit_at_mask_below (from % 64) 64 b below) ∙ omega arith;
      }

-- ==== What a write of one word leaves of a bitmap.

-- v is the new word's bit at the position, and its other bits are the old word's
pub bit-write : (ws : List ℕ) (at q w : ℕ) (v : Bool) → at / 64 < length ws → (bit_at w (at % 64) == 1) ≡ v
    → ((i : ℕ) → i < 64 → i ≢ at % 64 → bit_at w i ≡ bit_at (get_or ws (at / 64) 0) i)
    → bit (set ws (at / 64) w) q ≡ cond (q == at) v (bit ws q)
unfolding bit
bit-write ws at q w v inside here others =
    ⊎_elim
    (λ (same : q ≡ at). rw (same, eq-eqb at at refl, get_or-set_same ws (at / 64) w 0 inside) here)
    (λ (other : q ≡ at → ⊥). rw (ne_eqb q at other) (⊎_elim
    (λ (bitmap : q / 64 ≡ at / 64).
    let apart : q % 64 ≢ at % 64 = λ e. other (omega arith) in
    let small : q % 64 < 64 = omega arith in
    rw (bitmap, get_or-set_same ws (at / 64) w 0 inside) (ap (λ n. n == 1) (others (q % 64) small apart)))
    (λ (bitmap : q / 64 ≡ at / 64 → ⊥). rw (get_or-set_other ws (at / 64) (q / 64) w 0 bitmap) refl)
    (cases_eq (q / 64) (at / 64))))
    (cases_eq q at)

pub bit-set : (ws : List ℕ) (at q : ℕ) → at / 64 < length ws
    → bit (set ws (at / 64) (bit_or (get_or ws (at / 64) 0) (1 * 2 ^ (at % 64) % 2 ^ 64))) q
    ≡ cond (q == at) true (bit ws q)
bit-set ws at q inside =
    let small : at % 64 < 64 = omega arith in
    let word = get_or ws (at / 64) 0 in
    bit-write ws at q (bit_or word (1 * 2 ^ (at % 64) % 2 ^ 64)) true inside
    (ap (λ n. n == 1) (bit_at_set_same w64 word (at % 64) small))
    (λ i _ ne. bit_at_set_other w64 word (at % 64) small i ne)

pub bit-clear : (ws : List ℕ) (at q : ℕ) → at / 64 < length ws
    → bit (set ws (at / 64) (bit_and (get_or ws (at / 64) 0) (bit_not w64 (1 * 2 ^ (at % 64) % 2 ^ 64)))) q
    ≡ cond (q == at) false (bit ws q)
bit-clear ws at q inside =
    let small : at % 64 < 64 = omega arith in
    let word = get_or ws (at / 64) 0 in
    bit-write ws at q (bit_and word (bit_not w64 (1 * 2 ^ (at % 64) % 2 ^ 64))) false inside
    (ap (λ n. n == 1) (bit_at_clear_same w64 word (at % 64) small))
    (λ i lt ne. bit_at_clear_other w64 word (at % 64) small i lt ne)

-- a bitmap of zeros
zero_at : (n i : ℕ) → get_or (replicate n zero) i zero ≡ zero
zero_at n i = grind (arith, get_or-replicate, get_or_past, length-replicate, cases_lt)

pub bit-zeros : (n q : ℕ) → bit (replicate n zero) q ≡ false
unfolding bit
bit-zeros n q = rw (zero_at n (q / 64)) (ap (λ n. n == 1) (bit_at-zero (q % 64)))

-- past a bitmap no bit is set
pub bit_past : (ws : List ℕ) (q : ℕ) → length ws ≤ q / 64 → bit ws q ≡ false
unfolding bit
bit_past ws q past = rw (get_or_past ws (q / 64) 0 past) (ap (λ n. n == 1) (bit_at-zero (q % 64)))

-- ==== The bits of the masks, which are computed one by one.

every : (test : ℕ → Bool) (low n k : ℕ) → list_all test (range_with_len low n) ≡ true → low ≤ k → k < low + n → test k ≡ true
every test low zero k all above below = absurd (omega arith)
every test low (suc n) k all above below =
    let both = and_parts (test low) (list_all test (range_with_len (low + 1) n)) all in
    grind (arith, both.0, every test (low + 1) n k both.1)

-- a word has the bits of f, if it has each of the 64
pub bits_of : (w : ℕ) (f : ℕ → ℕ) → list_all (λ b. bit_at w b == f b) (range_with_len 0 64) ≡ true → (b : ℕ) → b < 64 → bit_at w b ≡ f b
bits_of w f all b small = eqb-true (bit_at w b) (f b) (every (λ b. bit_at w b == f b) 0 64 b all (omega arith) (omega arith))

-- ==== How many numbers pass a test.

-- no more than there are
pub count_below-le : (p : ℕ → Bool) (n : ℕ) → count_below p n ≤ n
unfolding count_below
count_below-le p zero = omega arith
count_below-le p (suc n) =
    let rest = count_below-le p n in grind (arith, rest)

-- the same tests give the same counts
count_below-same : (p q : ℕ → Bool) (n : ℕ) → ((k : ℕ) → k < n → q k ≡ p k) → count_below q n ≡ count_below p n
unfolding count_below
count_below-same p q zero same = refl
count_below-same p q (suc n) same =
    rw (same n (omega arith), count_below-same p q n (λ k less. same k (omega arith))) refl

-- one number more passes
pub count_below-more : (p q : ℕ → Bool) (n at : ℕ) → at < n → p at ≡ false → q at ≡ true
    → ((k : ℕ) → k ≢ at → q k ≡ p k) → count_below q n ≡ count_below p n + 1
unfolding count_below
count_below-more p q zero at less unset is_set others = absurd (omega arith)
count_below-more p q (suc n) at less unset is_set others =
    ⊎_elim
    (λ (e : at ≡ n). rw (ap p (sym e) ∙ unset, ap q (sym e) ∙ is_set, count_below-same p q n (λ k below. others k (omega arith))) (omega arith))
    (λ (ne : at ≡ n → ⊥).
    rw (others n (λ e. ne (sym e)), count_below-more p q n at (omega arith) unset is_set others) (omega arith))
    (cases_eq at n)

-- none passes
pub count_below-none : (p : ℕ → Bool) (n : ℕ) → ((k : ℕ) → p k ≡ false) → count_below p n ≡ 0
unfolding count_below
count_below-none p zero none = refl
count_below-none p (suc n) none = rw (none n, count_below-none p n none) refl

pub none_below : (p : ℕ → Bool) (n k : ℕ) → count_below p n ≡ 0 → k < n → p k ≡ false
unfolding count_below
none_below p zero k count less = absurd (omega arith)
none_below p (suc n) k count less = grind (arith, none_below p n k)

-- some number passes
pub some_below : (p : ℕ → Bool) (n : ℕ) → 0 < count_below p n → (k : ℕ) × (p k ≡ true)
unfolding count_below
some_below p zero count = absurd (omega arith)
some_below p (suc n) count = cond_both (p n) 1 0 (λ v. 0 < v + count_below p n → (k : ℕ) × (p k ≡ true)) (λ here _. (n, here))
    (λ fails more. some_below p n (omega arith)) count

-- ==== The count of a bitmap, and writes of one bit.

-- the word that has a number's bit, as it is read
word_of : (ws : List ℕ) (at i word : ℕ) → length ws ≡ 1024 → at < 65536 → i ≡ at → word ≡ get_or ws (i / 64) word
    → word ≡ get_or ws (at / 64) 0
word_of ws at i word long small e is =
    is ∙ ap (λ n. get_or ws (n / 64) word) e ∙ get_or_default ws (at / 64) word 0 (omega arith)

-- one bit more is set
counted_more : (ws vs : List ℕ) (count at : ℕ) → IsCounted ws count → length vs ≡ length ws → at < 65536
    → bit ws at ≡ false → ((q : ℕ) → bit vs q ≡ cond (q == at) true (bit ws q)) → IsCounted vs (count + 1)
counted_more ws vs count at bitmap same small unset change =
    let now : bit vs at ≡ true = change at ∙ ap (λ v. cond v true (bit ws at)) (eq-eqb at at refl) in
    let more = count_below-more (bit ws) (bit vs) 65536 at small unset now
    (λ k ne. change k ∙ ap (λ v. cond v true (bit ws k)) (ne_eqb k at ne)) in
    record { long = same ∙ bitmap.long; counts = ap (λ n. n + 1) bitmap.counts ∙ sym more }

-- one bit fewer is set
counted_fewer : (ws vs : List ℕ) (count at : ℕ) → IsCounted ws count → length vs ≡ length ws → at < 65536
    → bit ws at ≡ true → ((q : ℕ) → bit vs q ≡ cond (q == at) false (bit ws q)) → (1 ≤ count) × IsCounted vs (count - 1)
counted_fewer ws vs count at bitmap same small before change =
    let now : bit vs at ≡ false = change at ∙ ap (λ v. cond v false (bit ws at)) (eq-eqb at at refl) in
    let more = count_below-more (bit vs) (bit ws) 65536 at small now before
    (λ k ne. sym (change k ∙ ap (λ v. cond v false (bit ws k)) (ne_eqb k at ne))) in
    let counts = bitmap.counts in
    (omega arith, record { long = same ∙ bitmap.long; counts = omega arith })

-- no bit is set
pub counted_none : (ws : List ℕ) → length ws ≡ 1024 → ((q : ℕ) → bit ws q ≡ false) → IsCounted ws 0
counted_none ws long clear = record { long = long; counts = sym (count_below-none (bit ws) 65536 clear) }

-- ---- what reads and writes give

module _ (ws : List ℕ) (count at i word : ℕ) (bitmap : IsCounted ws count) (small : at < 65536) (e : i ≡ at)
    (is : word ≡ get_or ws (i / 64) word) where
  inside : at / 64 < length ws
  inside = let long = bitmap.long in omega arith

  known : word ≡ get_or ws (at / 64) 0
  known = word_of ws at i word bitmap.long small e is

  abbrev with_set : List ℕ
  with_set = set ws (i / 64) (bit_or word (1 * 2 ^ (at % 64) % 2 ^ 64))

  abbrev with_clear : List ℕ
  with_clear = set ws (i / 64) (bit_and word (bit_not w64 (1 * 2 ^ (at % 64) % 2 ^ 64)))

  pub set_gives : (now : List ℕ) → ws ≡ now → (q : ℕ) → bit with_set q ≡ cond (q == at) true (bit now q)
  set_gives now same q = grind (arith, bit_or, known, bit-set, inside)

  pub clear_gives : (now : List ℕ) → ws ≡ now → (q : ℕ) → bit with_clear q ≡ cond (q == at) false (bit now q)
  clear_gives now same q = grind (arith, bit_and, bit_not, known, bit-clear, inside)

  pub set_counts : (now : List ℕ) → ws ≡ now → bit now at ≡ false → IsCounted with_set (count + 1)
  set_counts now same unset = grind (arith, counted_more, length-set, bit_or, set_gives)

  pub clear_counts : (now : List ℕ) → ws ≡ now → bit now at ≡ true → (1 ≤ count) × IsCounted with_clear (count - 1)
  clear_counts now same before =
      counted_fewer ws with_clear count at bitmap (length-set ws (i / 64) (bit_and word (bit_not w64 (1 * 2 ^ (at % 64) % 2 ^ 64)))) small
      (ap (λ (l : List ℕ). bit l at) same ∙ before) (clear_gives ws refl)

  pub has_gives : (now : List ℕ) → ws ≡ now → (bit_and (word / 2 ^ (at % 64)) 1 == 1) ≡ bit now at
  unfolding bit
  has_gives now same =
      ap (λ w. bit_and (w / 2 ^ (at % 64)) 1 == 1) known
      ∙ ap (λ n. n == 1) (shr_and_one (get_or ws (at / 64) 0) (at % 64))
      ∙ ap (λ (l : List ℕ). bit l at) same

-- ---- the count

all_clear : (ws : List ℕ) (count : ℕ) → IsCounted ws count → count ≡ 0 → (q : ℕ) → bit ws q ≡ false
all_clear ws count bitmap none q =
    ⊎_elim
    (λ (small : q < 65536). none_below (bit ws) 65536 q (sym bitmap.counts ∙ none) small)
    (λ (past : 65536 ≤ q). let long = bitmap.long in bit_past ws q (omega arith))
    (cases_lt q 65536)

-- where the count is 0 no bit is set
pub clear_at : (ws now : List ℕ) (count : ℕ) → IsCounted ws count → ws ≡ now → OnTrue (count == 0) ((q : ℕ) → bit now q ≡ false)
clear_at ws now count bitmap is = grind (arith, OnTrue_from, all_clear, eqb-true)

-- where it is another number, some bit is set
pub set_at : (ws now : List ℕ) (count : ℕ) → IsCounted ws count → ws ≡ now → OnFalse (count == 0) ((q : ℕ) × (bit now q ≡ true))
set_at ws now count bitmap is =
    OnFalse_from (count == 0) ((q : ℕ) × (bit now q ≡ true))
    (λ more.
    let other = eqb-false count 0 more in
    let counts = bitmap.counts in
    let found = some_below (bit ws) 65536 (omega arith) in
    (found.0, ap (λ (l : List ℕ). bit l found.0) (sym is) ∙ found.1))
