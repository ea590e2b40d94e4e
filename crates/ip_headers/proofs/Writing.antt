-- A number written at an offset, and its bytes set one by one.
use Rattle.std.proofs.Common.{◌≡◌, ℕ, zero, suc, ◌+◌, ◌-◌, ◌^◌, ◌/◌, ◌%◌, ◌<◌, ◌≤◌, List, [], ◌∷◌, ◌++◌, length, take, drop, refl, ap, ◌∙◌, arith}
use Rattle.std.specs.List.{between}
use Rattle.std.proofs.lemmas.List.{append-nil, drop_all, length-drop}
use Rattle.std.proofs.lemmas.Slice.{between_to_end}
use native.Mathlib.Numerals.{unary_clauses}
use borrow.Rule.Slice.PartMut.{put_mid}
use Rattle.byteorder.specs.Endian.{big_bytes}
use Rattle.ip_headers.specs.Bytes.{with_u16, with_u32}

word_at : (bytes : List ℕ) (i word : ℕ) → i + 2 ≤ length bytes → word < 65536
    → take i bytes ++ (big_bytes 2 word ++ drop 2 (drop i bytes)) ≡ with_u16 bytes i word
word_at [] i word room small = absurd (omega arith)
word_at (a ∷ []) zero word room small = absurd (omega arith)
word_at (a ∷ b ∷ bs) zero word room small = ap (λ high. high ∷ word % 256 ∷ bs) (omega arith)
word_at (b ∷ bs) (suc i) word room small =
    let rest = simp unary_clauses at (word_at bs i word (omega arith) small) in
    simp unary_clauses (ap (λ xs. b ∷ xs) rest)

number_at : (bytes : List ℕ) (i number : ℕ) → i + 4 ≤ length bytes → number < 4294967296
    → take i bytes ++ (big_bytes 4 number ++ drop 4 (drop i bytes)) ≡ with_u32 bytes i number
number_at [] i number room small = absurd (omega arith)
number_at (a ∷ []) zero number room small = absurd (omega arith)
number_at (a ∷ b ∷ []) zero number room small = absurd (omega arith)
number_at (a ∷ b ∷ c ∷ []) zero number room small = absurd (omega arith)
number_at (a ∷ b ∷ c ∷ d ∷ bs) zero number room small =
    let first : number / 16777216 % 256 ≡ number / 65536 / 256 = omega arith in
    let third : number / 256 % 256 ≡ number % 65536 / 256 = omega arith in
    let fourth : number % 256 ≡ number % 65536 % 256 = omega arith in
    rw (first, third, fourth) refl
number_at (b ∷ bs) (suc i) number room small =
    let rest = simp unary_clauses at (number_at bs i number (omega arith) small) in
    simp unary_clauses (ap (λ xs. b ∷ xs) rest)

-- a write to the end of a slice
module _ (bytes new : List ℕ) (i n value : ℕ) (room : i + n ≤ length bytes)
    (put : new ≡ big_bytes n value ++ drop n (between i (length bytes) bytes)) where
  put_behind : put_mid i (length bytes - i) bytes new ≡ take i bytes ++ (big_bytes n value ++ drop n (drop i bytes))
  put_behind =
      let past = drop_all (length bytes - i) (drop i bytes) (grind (arith, length-drop)) in
      let rest = between_to_end bytes i (length bytes) (omega arith) in
      ap (λ xs. take i bytes ++ (new ++ xs)) past
      ∙ ap (λ xs. take i bytes ++ xs) (append-nil new ∙ put ∙ ap (λ xs. big_bytes n value ++ drop n xs) rest)

pub word_put : (bytes new : List ℕ) (i word : ℕ) → i + 2 ≤ length bytes → word < 2 ^ 16
    → new ≡ big_bytes 2 word ++ drop 2 (between i (length bytes) bytes)
    → put_mid i (length bytes - i) bytes new ≡ with_u16 bytes i word
word_put bytes new i word room small put = put_behind bytes new i 2 word room put ∙ word_at bytes i word room (omega (arith, small))

pub number_put : (bytes new : List ℕ) (i number : ℕ) → i + 4 ≤ length bytes → number < 2 ^ 32
    → new ≡ big_bytes 4 number ++ drop 4 (between i (length bytes) bytes)
    → put_mid i (length bytes - i) bytes new ≡ with_u32 bytes i number
number_put bytes new i number room small put = put_behind bytes new i 4 number room put ∙ number_at bytes i number room (omega (arith, small))
