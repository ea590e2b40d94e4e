-- The first number of an interval that passes, and the preferred ports as one interval.
use Rattle.std.proofs.Common.{◌≡◌, ℕ, zero, suc, ◌+◌, ◌-◌, ◌<◌, ◌≤◌, Bool, true, false, List, [], Option}
use Rattle.std.proofs.Common.{Some, None, refl, sym, ap, subst, ◌∙◌, ⊎_elim, arith, ◌∷◌, length, get_or}
use Rattle.std.proofs.Common.{◌%◌, max, min, ◌&&◌, not, cond, w64, ◌^◌, ◌/◌}
use Rattle.std.specs.List.{Contains, filter, find, range_with_len}
use Rattle.std.proofs.lemmas.Bool.{cases_Bool, cases_eq, cases_lt, both_ways, eq-eqb, and_parts}
use Rattle.std.proofs.lemmas.Bool.{le-leb, lt-leb, lt-ltb, le-ltb}
use Rattle.std.proofs.lemmas.List.FromFn.{length-range_with_len, get_or-range_with_len}
use Rattle.list_laws.specs.Lists.{find-filter}
use Rattle.std.proofs.lemmas.Bool.Decides.{nat_tests}
use Rattle.list_laws.specs.Filters.{has_filter}
use Rattle.port_pool.specs.Candidates.{numbers, or_these, class_of, same_parity, same_class_and_parity}
use Rattle.port_pool.specs.Candidates.{preferred, starting_at}
use Rattle.port_pool.specs.steps.First.{IsFirst, is_open}
use Rattle.std.specs.Prelude.{◌==◌, nat_le, nat_lt, if◌then◌else◌}
use Rattle.std.specs.Int.{bit_at, bit_not}
use Rattle.std.specs.Option.{option_or}
use Rattle.std.proofs.lemmas.List.Folds.{find-append}
use Rattle.std.proofs.lemmas.Nat.Bits.{bit_at_and, bit_at_not, bit_at-lt}
use Rattle.port_pool.specs.declared.span.Parity.{Parity}
use Rattle.port_pool.specs.declared.span.Parity.TheVariants.{All, Even, Odd}
use Rattle.port_pool.specs.steps.Bits.{bit}
use Rattle.port_pool.specs.steps.Spans.{matches_parity, SameFinds, HasParity, NoParity, IsClassPart}

-- ==== The first of a list of numbers that passes.

-- the first number is one
unique : (p : ℕ → Bool) (low to : ℕ) (r s : Option ℕ) → IsFirst p low to r → IsFirst p low to s → r ≡ s
unique p low to None None f g = refl
unique p low to None (Some k) f g = absurd (both_ways (p k) (f k g.above g.below) g.passes)
unique p low to (Some j) None f g = absurd (both_ways (p j) (g j f.above f.below) f.passes)
unique p low to (Some j) (Some k) f g = ap Some (grind (arith, g.before j f.above, f.before k g.above, f.passes, g.passes))

-- the number before the interval fails too
earlier : (p : ℕ → Bool) (low to : ℕ) (r : Option ℕ) → p low ≡ false → IsFirst p (low + 1) to r → IsFirst p low to r
earlier p low to None fails f = λ k above below. grind (arith, f k, fails)
earlier p low to (Some k) fails f = grind arith

exists_range : (p : ℕ → Bool) (low n : ℕ) → IsFirst p low (low + n) (find p (range_with_len low n))
exists_range p low zero = λ k above below. absurd (omega arith)
exists_range p low (suc n) =
    ⊎_elim
    (λ (holds : p low ≡ true). rw holds record {
      above = omega arith;
      below = omega arith;
      passes = holds;
      before = λ k above below. absurd (omega arith);
    })
    (λ (fails : p low ≡ false).
    let e : low + 1 + n ≡ low + suc n = omega arith in
    rw fails (earlier p low (low + suc n) (find p (range_with_len (low + 1) n)) fails
    (subst (λ to. IsFirst p (low + 1) to (find p (range_with_len (low + 1) n))) e (exists_range p (low + 1) n))))
    (cases_Bool (p low))

pub exists_numbers : (p : ℕ → Bool) (low high : ℕ) → IsFirst p low (high + 1) (find p (numbers low high))
unfolding numbers
exists_numbers p low high =
    ⊎_elim
    (λ (long : low < high + 1). let e : low + (high + 1 - low) ≡ high + 1 = omega arith in
    subst (λ to. IsFirst p low to (find p (range_with_len low (high + 1 - low)))) e
    (exists_range p low (high + 1 - low)))
    (λ (short : high + 1 ≤ low). let e : high + 1 - low ≡ 0 = omega arith in rw e (λ k above below. absurd (omega arith)))
    (cases_lt low (high + 1))

pub find-numbers : (p : ℕ → Bool) (low high : ℕ) (r : Option ℕ) → IsFirst p low (high + 1) r → find p (numbers low high) ≡ r
find-numbers p low high r f = unique p low (high + 1) (find p (numbers low high)) r (exists_numbers p low high) f

-- ---- from one interval and test to another

-- numbers that pass q are in a..b and pass q' there
pub narrowed : (q q' : ℕ → Bool) (low to a b : ℕ) (r : Option ℕ) → low ≤ a → b ≤ to
    → ((k : ℕ) → low ≤ k → k < to → q k ≡ true → a ≤ k) → ((k : ℕ) → low ≤ k → k < to → q k ≡ true → k < b)
    → ((k : ℕ) → a ≤ k → k < b → q' k ≡ q k) → IsFirst q low to r → IsFirst q' a b r
narrowed q q' low to a b None la bt lower upper same f = λ k above below. same k above below ∙ f k (omega arith) (omega arith)
narrowed q q' low to a b (Some k) la bt lower upper same f = grind arith

-- nothing else passes p, which is q in a..b
pub widened : (q p : ℕ → Bool) (a b low to : ℕ) (r : Option ℕ) → low ≤ a → b ≤ to
    → ((k : ℕ) → a ≤ k → k < b → p k ≡ q k) → ((k : ℕ) → low ≤ k → k < a → p k ≡ false)
    → ((k : ℕ) → b ≤ k → k < to → p k ≡ false) → IsFirst q a b r → IsFirst p low to r
widened q p a b low to None la bt same under over f = λ k above below. grind (arith, under k, same k, over k, f k)
widened q p a b low to (Some k) la bt same under over f = grind arith

-- ---- the first list that isn't empty

pub numbers_has : (low high w : ℕ) → low ≤ w → w ≤ high → Contains (numbers low high) w
unfolding numbers
numbers_has low high w a b =
    let n : length (range_with_len low (high + 1 - low)) ≡ high + 1 - low = length-range_with_len low (high + 1 - low) in
    let at : get_or (range_with_len low (high + 1 - low)) (w - low) w ≡ low + (w - low) =
    get_or-range_with_len low (high + 1 - low) (w - low) w (omega (arith, n, a, b)) in
    let back : low + (w - low) ≡ w = omega (arith, a) in
    (w - low, omega (arith, n, a, b), at ∙ back)

-- a list with an element is the first that isn't empty
pub or_these-first : (xs ys : List ℕ) (x : ℕ) → Contains xs x → or_these xs ys ≡ xs
or_these-first [] ys x among = absurd (omega (arith, among.1))
or_these-first (d ∷ xs) ys x among = refl

pub or_these-left : (q : ℕ → Bool) (ys : List ℕ) (low high k : ℕ) → low ≤ k → k ≤ high → q k ≡ true
    → or_these (filter q (numbers low high)) ys ≡ filter q (numbers low high)
or_these-left q ys low high k above below holds = or_these-first (filter q (numbers low high)) ys k
    (has_filter q (numbers low high) k (numbers_has low high k above below) holds)

empty_range : (q : ℕ → Bool) (low n : ℕ) → ((k : ℕ) → low ≤ k → k < low + n → q k ≡ false) → filter q (range_with_len low n) ≡ []
empty_range q low zero fails = refl
empty_range q low (suc n) fails = let here : q low ≡ false = fails low (omega arith) (omega arith) in
    rw here (empty_range q (low + 1) n (λ k above below. fails k (omega arith) (omega arith)))

pub filter_empty : (q : ℕ → Bool) (low high : ℕ) → ((k : ℕ) → low ≤ k → k ≤ high → q k ≡ false) → filter q (numbers low high) ≡ []
unfolding numbers
filter_empty q low high fails = empty_range q low (high + 1 - low) (λ k above below. fails k above (omega arith))

-- ==== The preferred ports for a number, as one interval.

-- one of two neighbours has the parity
pub parity_near : (s low high : ℕ) → low < high → HasParity s low high
parity_near s low high more =
    ⊎_elim
    (λ (e : low % 2 ≡ s % 2). record { at = low; above = omega arith; below = omega arith; like = eq-eqb (low % 2) (s % 2) e })
    (λ (ne : low % 2 ≡ s % 2 → ⊥). record {
      at = low + 1;
      above = omega arith;
      below = omega arith;
      like = eq-eqb ((low + 1) % 2) (s % 2) (omega arith);
    })
    (cases_eq (low % 2) (s % 2))

-- ---- the parts of `preferred`

-- numbers that pass q are in a..=b and pass q' there
same_finds : (q q' : ℕ → Bool) (low high a b : ℕ) → low ≤ a → b ≤ high
    → ((k : ℕ) → low ≤ k → k ≤ high → q k ≡ true → a ≤ k) → ((k : ℕ) → low ≤ k → k ≤ high → q k ≡ true → k ≤ b)
    → ((k : ℕ) → a ≤ k → k ≤ b → q' k ≡ q k) → SameFinds (filter q' (numbers a b)) (filter q (numbers low high))
same_finds q q' low high a b la bh lower upper same p =
    let r = find (λ k. q k && p k) (numbers low high) in
    find-filter p q' (numbers a b)
    ∙ find-numbers (λ k. q' k && p k) a b r (narrowed (λ k. q k && p k) (λ k. q' k && p k) low (high + 1) a (b + 1) r la (omega arith)
    (λ k above below yes. lower k above (omega arith) (and_parts (q k) (p k) yes).0)
    (λ k above below yes. let le = upper k above (omega arith) (and_parts (q k) (p k) yes).0 in omega arith)
    (λ k above below. ap (λ v. v && p k) (same k above (omega arith)))
    (exists_numbers (λ k. q k && p k) low high))
    ∙ sym (find-filter p q (numbers low high))

module _ (s low high a b : ℕ) (parity : Parity) (part : IsClassPart s low high a b) where
  -- no port has both class and parity where none of the class has the parity
  none_alike : NoParity s a b → filter (same_class_and_parity s) (numbers low high) ≡ []
  none_alike none = filter_empty (same_class_and_parity s) low high (λ k above below.
      ⊎_elim
      (λ (yes : (class_of k == class_of s) ≡ true). ap (λ v. v && same_parity s k) yes
      ∙ none k (part.above_all k above below yes) (part.below_all k above below yes))
      (λ (no : (class_of k == class_of s) ≡ false). ap (λ v. v && same_parity s k) no)
      (cases_Bool (class_of k == class_of s)))

  pub preferred_same : HasParity s a b → ((k : ℕ) → matches_parity parity k ≡ same_parity s k)
      → SameFinds (filter (matches_parity parity) (numbers a b)) (preferred s (numbers low high))
  preferred_same some like p =
      let la = part.above in
      let bh = part.below in
      let from = some.above in
      let till = some.below in
      let witness : same_class_and_parity s some.at ≡ true =
      ap (λ v. v && same_parity s some.at) (part.inside some.at from till) ∙ some.like in
      let first = or_these-left (same_class_and_parity s)
      (or_these (filter (same_parity s) (numbers low high)) (numbers low high)) low high some.at (omega arith)
      (omega arith) witness in
      same_finds (same_class_and_parity s) (matches_parity parity) low high a b la bh
      (λ k above below yes. part.above_all k above below (and_parts (class_of k == class_of s) (same_parity s k) yes).0)
      (λ k above below yes. part.below_all k above below (and_parts (class_of k == class_of s) (same_parity s k) yes).0)
      (λ k above below. like k ∙ sym (ap (λ v. v && same_parity s k) (part.inside k above below)))
      p
      ∙ sym (ap (find p) first)

  pub preferred_parity : NoParity s a b → HasParity s low high → ((k : ℕ) → matches_parity parity k ≡ same_parity s k)
      → SameFinds (filter (matches_parity parity) (numbers low high)) (preferred s (numbers low high))
  preferred_parity none some like p =
      same_finds (same_parity s) (matches_parity parity) low high low high (omega arith) (omega arith)
      (λ k above below yes. above) (λ k above below yes. below) (λ k above below. like k) p
      ∙ sym (ap (find p) (ap (λ l. or_these l (or_these (filter (same_parity s) (numbers low high)) (numbers low high))) (none_alike none)
      ∙ or_these-left (same_parity s) (numbers low high) low high some.at some.above some.below some.like))

  pub preferred_all : NoParity s a b → NoParity s low high
      → SameFinds (filter (matches_parity All) (numbers low high)) (preferred s (numbers low high))
  preferred_all none no_more p =
      find-filter p (matches_parity All) (numbers low high)
      ∙ sym (ap (find p) (ap (λ l. or_these l (or_these (filter (same_parity s) (numbers low high)) (numbers low high))) (none_alike none)
      ∙ ap (λ l. or_these l (numbers low high)) (filter_empty (same_parity s) low high no_more)))

-- ---- the order

pub starting_at-find : (s : ℕ) (p : ℕ → Bool) (xs : List ℕ)
    → find p (starting_at s xs) ≡ option_or (find (λ k. nat_le s k && p k) xs) (find (λ k. nat_lt k s && p k) xs)
starting_at-find s p xs = grind (arith, find-append, nat_le, nat_lt, option_or, find-filter)

pub starting_at-same : (s : ℕ) (xs ys : List ℕ) → SameFinds xs ys → SameFinds (starting_at s xs) (starting_at s ys)
starting_at-same s xs ys same p = grind (arith, starting_at-find, option_or, nat_lt, nat_le)

pub all_match_parity : (xs : List ℕ) → SameFinds (filter (matches_parity All) xs) xs
all_match_parity xs p = find-filter p (matches_parity All) xs

-- ---- the clear bits of a span

open_bits : (x m : ℕ) (f : Bool) → x < 2 → m ≡ cond f 1 0 → (min (1 - x) m == 1) ≡ (f && not (x == 1))
open_bits x m f small e = grind (arith, nat_tests, small, e)

matches_parity_in_word : (parity : Parity) (k : ℕ) → matches_parity parity (k % 64) ≡ matches_parity parity k
matches_parity_in_word All k = refl
matches_parity_in_word Even k = let e : k % 64 % 2 ≡ k % 2 = omega arith in ap (λ n. n == 0) e
matches_parity_in_word Odd k = let e : k % 64 % 2 ≡ k % 2 = omega arith in ap (λ n. n == 1) e

module _ (ws : List ℕ) (mask : ℕ) (parity : Parity) (fit : (i : ℕ) → get_or ws i 0 < 2 ^ 64)
    (masks : (b : ℕ) → b < 64 → bit_at mask b ≡ (if matches_parity parity b then 1 else 0)) where
  pub is_open-is : (k : ℕ) → is_open ws mask k ≡ (matches_parity parity k && not (bit ws k))
  unfolding is_open bit
  is_open-is k =
      let small : k % 64 < 64 = omega arith in
      let word = get_or ws (k / 64) 0 in
      ap (λ n. n == 1) (bit_at_and (bit_not w64 word) mask (k % 64)
      ∙ ap (λ n. min n (bit_at mask (k % 64))) (bit_at_not w64 word (k % 64) (fit (k / 64)) small))
      ∙ open_bits (bit_at word (k % 64)) (bit_at mask (k % 64)) (matches_parity parity k) (bit_at-lt word (k % 64))
      (masks (k % 64) small ∙ ap (λ v. cond v 1 0) (matches_parity_in_word parity k))

-- ---- the first number from s on that passes, and else the first one

pub passes_all : (b : Bool) → b ≡ (b && true)
passes_all b = grind arith

swapped : (f v w : Bool) → v ≡ true → (f && (v && w)) ≡ (f && w)
swapped f v w e = rw e refl

blocked : (f v w : Bool) → v ≡ false → (f && (v && w)) ≡ false
blocked f v w e = grind arith

-- of a span's numbers those that pass q, which are those that pass g
module _ (parity : Parity) (q g : ℕ → Bool) (same : (k : ℕ) → g k ≡ (matches_parity parity k && q k))
    (s low high from end : ℕ) (begins : from ≡ max low s) (ends : end ≡ high + 1) where
  abbrev span : List ℕ
  span = filter (matches_parity parity) (numbers low high)

  up_find : (r : Option ℕ) → IsFirst g from end r → find (λ k. nat_le s k && q k) span ≡ r
  up_find r f =
      find-filter (λ k. nat_le s k && q k) (matches_parity parity) (numbers low high)
      ∙ find-numbers (λ k. matches_parity parity k && (nat_le s k && q k)) low high r
      (widened g (λ k. matches_parity parity k && (nat_le s k && q k)) from end low (high + 1) r (omega arith) (omega arith)
      (λ k above below. swapped (matches_parity parity k) (nat_le s k) (q k) (le-leb s k (omega arith)) ∙ sym (same k))
      (λ k above below. blocked (matches_parity parity k) (nat_le s k) (q k) (lt-leb s k (omega arith)))
      (λ k above below. absurd (omega arith))
      f)

  least_find : (till : ℕ) → till ≡ min end s → (r : Option ℕ) → IsFirst g low till r
      → find (λ k. nat_lt k s && q k) span ≡ r
  least_find till e r f =
      find-filter (λ k. nat_lt k s && q k) (matches_parity parity) (numbers low high)
      ∙ find-numbers (λ k. matches_parity parity k && (nat_lt k s && q k)) low high r
      (widened g (λ k. matches_parity parity k && (nat_lt k s && q k)) low till low (high + 1) r (omega arith) (omega arith)
      (λ k above below. swapped (matches_parity parity k) (nat_lt k s) (q k) (lt-ltb k s (omega arith)) ∙ sym (same k))
      (λ k above below. absurd (omega arith))
      (λ k above below. blocked (matches_parity parity k) (nat_lt k s) (q k) (le-ltb k s (omega arith)))
      f)

  pub found_up : (found : ℕ) → IsFirst g from end (Some found) → Some found ≡ find q (starting_at s span)
  found_up found f = sym (starting_at-find s q span
      ∙ ap (λ o. option_or o (find (λ k. nat_lt k s && q k) span)) (up_find (Some found) f))

  pub found_least : (till : ℕ) → till ≡ min end s → (r : Option ℕ) → IsFirst g from end None → IsFirst g low till r
      → r ≡ find q (starting_at s span)
  found_least till e r none f = sym (starting_at-find s q span
      ∙ ap (λ o. option_or o (find (λ k. nat_lt k s && q k) span)) (up_find None none) ∙ least_find till e r f)
