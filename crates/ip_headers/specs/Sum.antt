-- The Internet checksum's sum: the ones' complement sum of 16-bit words (RFC 791, section 3.1; RFC 1071,
-- section 1).
use Rattle.std.specs.Prelude.{ℕ, ◌+◌, ◌*◌, ◌-◌, ◌%◌, nat_lt, List, [], ◌∷◌, if◌then◌else◌, ◌==◌}

-- the sum of the big-endian 16-bit words, without reduction; an odd last byte is padded with a zero byte
abbrev pub words_sum : List ℕ → ℕ
words_sum [] = 0
words_sum (high ∷ []) = high * 256
words_sum (high ∷ low ∷ rest) = high * 256 + low + words_sum rest

-- end-around carry: the number from 1 to 65535 that is congruent modulo 65535, and 0 for 0
abbrev pub folded : ℕ → ℕ
folded n = if n == 0 then 0 else (n - 1) % 65535 + 1

abbrev pub ones_sum_of : List ℕ → ℕ
ones_sum_of bytes = folded (words_sum bytes)

-- ones' complement addition of two words, with its end-around carry
abbrev pub ones_add : ℕ → ℕ → ℕ
ones_add a b = if nat_lt (a + b) 65536 then a + b else a + b - 65535

-- the sum with the end-around carry at each word
abbrev pub sum_with_carries : List ℕ → ℕ
sum_with_carries [] = 0
sum_with_carries (high ∷ []) = high * 256
sum_with_carries (high ∷ low ∷ rest) = ones_add (high * 256 + low) (sum_with_carries rest)
