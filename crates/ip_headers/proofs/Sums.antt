-- Sums of words, byte by byte and with end-around carries.
use Rattle.std.proofs.Common.{◌≡◌, ℕ, zero, suc, ◌+◌, ◌*◌, ◌<◌, List, [], ◌∷◌, length, get_or, take, drop}
use Rattle.std.proofs.Common.{Bool, true, false, refl, ap, sym, ◌∙◌, arith, ◌++◌, map}
use Rattle.std.specs.Simd.Lanes.{sum_l, fold_l, zip2}
use Rattle.std.proofs.lemmas.List.{take-append-drop}
use Rattle.std.proofs.lemmas.Simd.{fold-sum}
use Rattle.std.specs.Prelude.{All}
use Rattle.byteorder.specs.Endian.{big_number}
use Rattle.ip_headers.specs.Sum.{words_sum, folded, ones_sum_of, ones_add, sum_with_carries}

-- 2^16 is congruent to 1 modulo 65535
high_word : (high more : ℕ) → folded (high * 65536 + more) ≡ folded (high + more)
high_word high more = grind arith

pub double_word : (xs : List ℕ) → length xs ≡ 4 → (more : ℕ) → folded (big_number 4 xs + more) ≡ folded (words_sum xs + more)
double_word (a ∷ b ∷ c ∷ d ∷ []) e more =
    ap folded (omega arith) ∙ high_word (a * 256 + b) (c * 256 + d + more) ∙ ap folded (omega arith)
double_word xs e more = absurd (omega arith)

-- whole words, and what follows them
pub words_sum_append : (n : ℕ) (xs ys : List ℕ) → length xs ≡ n * 2 → words_sum (xs ++ ys) ≡ words_sum xs + words_sum ys
words_sum_append zero [] ys e = omega arith
words_sum_append zero (x ∷ xs) ys e = absurd (omega arith)
words_sum_append (suc n) [] ys e = absurd (omega arith)
words_sum_append (suc n) (x ∷ []) ys e = absurd (omega arith)
words_sum_append (suc n) (x ∷ y ∷ xs) ys e = omega (arith, words_sum_append n xs ys (omega arith))

-- one step of a sum, over words with a value that is as good as their sum
pub sum_step : (n sum less value : ℕ) (rest front back : List ℕ) → front ≡ take (n * 2) rest → back ≡ drop (n * 2) rest
    → length front ≡ n * 2 → ((more : ℕ) → folded (less + more) ≡ folded (sum + more))
    → ((more : ℕ) → folded (value + more) ≡ folded (words_sum front + more))
    → folded (less + value + words_sum back) ≡ folded (sum + words_sum rest)
sum_step n sum less value rest front back is_front is_back long reduced valued =
    let whole : front ++ back ≡ rest = rw (is_front, is_back) (take-append-drop (n * 2) rest) in
    let words : words_sum rest ≡ words_sum front + words_sum back = ap words_sum (sym whole) ∙ words_sum_append n front back long in
    ap folded (omega arith) ∙ reduced (value + words_sum back) ∙ ap folded (omega arith) ∙ valued (sum + words_sum back)
    ∙ ap folded (omega (arith, words))

-- a high byte counts 256 times
abbrev pub weights : ℕ → List ℕ
weights zero = []
weights (suc n) = 256 ∷ 1 ∷ weights n

pub weighted : (n : ℕ) (xs : List ℕ) → length xs ≡ n * 2 → sum_l (zip2 (λ a b. a * b) xs (weights n)) ≡ words_sum xs
weighted zero [] e = refl
weighted zero (x ∷ xs) e = absurd (omega arith)
weighted (suc n) [] e = absurd (omega arith)
weighted (suc n) (x ∷ []) e = absurd (omega arith)
weighted (suc n) (x ∷ y ∷ xs) e = omega (arith, weighted n xs (omega arith))

-- the lanes' sum is that of the words
pub block_words : (n : ℕ) (xs : List ℕ) → length xs ≡ n * 2 → fold_l (λ s x. s + x) 0 (zip2 (λ a b. a * b) xs (weights n)) ≡ words_sum xs
block_words n xs long = omega (arith, fold-sum 0 (zip2 (λ a b. a * b) xs (weights n)), weighted n xs long)

-- lanes that are loaded and widened have the bytes' numbers
pub lanes_are : (n : ℕ) (xs : List ℕ) → length xs ≡ n → map (λ x. x) (take n xs) ≡ xs
lanes_are zero [] e = refl
lanes_are zero (x ∷ xs) e = absurd (omega arith)
lanes_are (suc n) [] e = refl
lanes_are (suc n) (x ∷ xs) e = ap (λ n. x ∷ n) (lanes_are n xs (omega arith))

-- the sum of bytes of which the first is a high or a low byte
abbrev pub placed : Bool → List ℕ → ℕ
placed high [] = 0
placed true (x ∷ xs) = x * 256 + placed false xs
placed false (x ∷ xs) = x + placed true xs

pub placed_is : (xs : List ℕ) → placed true xs ≡ words_sum xs
placed_is [] = refl
placed_is (x ∷ []) = omega arith
placed_is (x ∷ y ∷ xs) = omega (arith, placed_is xs)

pub add_folded_right : (a b : ℕ) → a < 65536 → ones_add a (folded b) ≡ folded (a + b)
add_folded_right a b small = grind arith

pub sum_with_carries_is : (xs : List ℕ) → ((i : ℕ) → get_or xs i 0 < 256) → sum_with_carries xs ≡ ones_sum_of xs
sum_with_carries_is [] small = refl
sum_with_carries_is (x ∷ []) small = grind (arith, small 0)
sum_with_carries_is (x ∷ y ∷ xs) small = ap (λ n. ones_add (x * 256 + y) n)
    (sum_with_carries_is xs (λ i. small (suc (suc i))))
    ∙ add_folded_right (x * 256 + y) (words_sum xs) (omega (arith, small 0, small 1))

-- 0 only where every byte is 0
pub zero_bytes : (xs : List ℕ) → ones_sum_of xs ≡ 0 → All (λ b. b ≡ 0) xs
zero_bytes [] e k d lt = absurd (omega arith)
zero_bytes (x ∷ []) e zero d lt = grind arith
zero_bytes (x ∷ []) e (suc k) d lt = absurd (omega arith)
zero_bytes (x ∷ y ∷ xs) e zero d lt = grind arith
zero_bytes (x ∷ y ∷ xs) e (suc zero) d lt = grind arith
zero_bytes (x ∷ y ∷ xs) e (suc (suc k)) d lt = zero_bytes xs (grind arith) k d (omega arith)
