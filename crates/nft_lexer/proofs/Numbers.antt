-- The values of digits, and the tokens of lexemes.
use Rattle.std.proofs.Common.{◌≡◌, ℕ, zero, suc, ◌+◌, ◌-◌, ◌*◌, ◌/◌, ◌%◌, ◌^◌, ◌<◌, ◌≤◌, true}
use Rattle.std.proofs.Common.{List, [], ◌∷◌, ◌++◌, length, take, drop, get_or, Some}
use Rattle.std.proofs.Common.{refl, sym, ap, ◌∙◌, arith, rules}
use Rattle.std.specs.Prelude.{IfSome, nat_lt}
use Rattle.std.specs.Char.{is_ascii_digit, is_ascii_hexdigit, digit_value}
use Rattle.std.specs.Fmt.{decimal}
use Rattle.std.specs.List.{list_all}
use Rattle.std.specs.Str.Parse.{AllDigits, digits_value, digits_value_after}
use Rattle.std.proofs.lemmas.Bool.{and_parts, lt-ltb}
use Rattle.std.proofs.lemmas.Bool.Decides.{nat_tests}
use Rattle.std.proofs.lemmas.List.{length-append, nil_from_length}
use Rattle.std.proofs.Math.Seq.{take-append_seam}
use Rattle.std.proofs.lemmas.Fmt.{decimal_digit, decimal_is_IsNumeral, decimal-digits_value, first_decimal}
use Rattle.std.proofs.lemmas.Str.Parse.{IsNumeralModel, numerals_by_value}
use Rattle.list_laws.specs.Options.{IfSome_bind, IfSome_weaker}
use Rattle.nft_lexer.specs.Terminal.{LexedToken, word, number, string}
use Rattle.nft_lexer.specs.Lexing.{Lexeme, name, digits, hexadecimal, dotted_quad, quoted, IsDigits, IsHexadecimal}
use Rattle.nft_lexer.specs.Lexing.{IsValidDecimal, AreOctets, SpellsLexeme, HasTokens}
use Rattle.nft_lexer.specs.steps.Reading.{below, value_after, decimal_at, octet_at}
use Rattle.nft_lexer.specs.steps.Reading.{address_of, meaning, one}

-- ---- the value of digits

-- More digits never make a smaller number.
grows : (radix n : ℕ) (ds : List ℕ) → 1 ≤ radix → n ≤ digits_value_after radix n ds
grows radix n [] some = omega arith
grows zero n (b ∷ bs) some = absurd (omega arith)
grows (suc r) n (b ∷ bs) some = omega (arith, grows (suc r) (n * suc r + digit_value b) bs some)

value_is : (radix n : ℕ) (ds : List ℕ) → 1 ≤ radix → AllDigits radix ds → n < 2 ^ 64
    → value_after radix n ds ≡ below (2 ^ 64) (digits_value_after radix n ds)
unfolding value_after
value_is radix n [] some all less = rw (lt-ltb n (2 ^ 64) less) refl
value_is radix n (b ∷ bs) some all less =
    let next = n * radix + digit_value b in
    let digit : nat_lt (digit_value b) radix ≡ true = lt-ltb (digit_value b) radix all.0 in
    let more : next ≤ digits_value_after radix next bs = grows radix next bs some in
    rw digit (grind (arith, nat_tests, value_is radix next bs some all.1, more))

below_found : (most n : ℕ) → IfSome (below most n) (λ m. (m ≡ n) × (m < most))
below_found most n = grind (arith, nat_tests)

below_only : (most n : ℕ) → n < most → below most n ≡ Some n
below_only most n less = rw (lt-ltb n most less) refl

all_hexadecimal : (ds : List ℕ) → list_all is_ascii_hexdigit ds ≡ true → AllDigits 16 ds
all_hexadecimal [] all = tt
all_hexadecimal (b ∷ bs) all =
    let lexemes = and_parts (is_ascii_hexdigit b) (list_all is_ascii_hexdigit bs) all in
    (grind (arith, nat_tests, lexemes.0), all_hexadecimal bs lexemes.1)

hexadecimal_is : (ds : List ℕ) → IsHexadecimal ds → value_after 16 0 ds ≡ below (2 ^ 64) (digits_value 16 ds)
hexadecimal_is ds s = value_is 16 0 ds (omega arith) (all_hexadecimal ds s.1) (omega arith)

own : IsNumeralModel (λ ds. list_all is_ascii_digit ds ≡ true) (digits_value 10)
own = numerals_by_value _ (search rules)

decimal_is : (ds : List ℕ) → IsDigits ds → value_after 10 0 ds ≡ below (2 ^ 64) (digits_value 10 ds)
decimal_is ds s = value_is 10 0 ds (omega arith) (own.to ds s.1) (omega arith)

-- ---- decimal numbers with no leading zero

decimal_found : (ds : List ℕ) → IsDigits ds
    → IfSome (decimal_at ds) (λ n. IsValidDecimal ds × (n ≡ digits_value 10 ds))
unfolding decimal_at
decimal_found ds s = rw (decimal_is ds s) (grind (arith, nat_tests))

decimal_only : (ds : List ℕ) → IsDigits ds → IsValidDecimal ds → decimal_at ds ≡ Some (digits_value 10 ds)
unfolding decimal_at
decimal_only ds s m = rw (decimal_is ds s) (grind (arith, nat_tests, m.0, m.1))

-- ---- octets

octet_found : (ds : List ℕ) → IsDigits ds → IfSome (octet_at ds) (λ n. (n < 256) × (ds ≡ decimal n))
unfolding octet_at
octet_found ds s =
    IfSome_bind _ (decimal_at ds) _ (decimal_found ds s) (λ n h.
    IfSome_weaker (below 256 n) _ _ (λ m g.
    let many : 0 < length ds = grind (arith, nil_from_length, s.0) in (
      g.1,
      sym (ap decimal (g.0 ∙ h.1) ∙ decimal-digits_value own ds s.1 many
          (λ zero. grind (arith, h.0.0, many, zero)) h.0.1),
    )) (below_found 256 n))

valid_decimal : (n : ℕ) → n < 256 → IsValidDecimal (decimal n)
valid_decimal zero less = grind (arith, decimal_digit, decimal_is_IsNumeral)
valid_decimal (suc k) less =
    let first : 48 < get_or (decimal (suc k)) 0 0 = first_decimal (suc k) (omega arith) (omega arith) in
    (λ _. omega arith, omega (arith, (decimal_is_IsNumeral (suc k) (omega arith)).1))

octet_only : (ds : List ℕ) (n : ℕ) → IsDigits ds → n < 256 → ds ≡ decimal n → octet_at ds ≡ Some n
unfolding octet_at
octet_only ds n s less e =
    let sound : IsValidDecimal ds = rw e (valid_decimal n less) in
    let value : digits_value 10 ds ≡ n = rw e (decimal_is_IsNumeral n (omega arith)).1 in
    rw (decimal_only ds s sound, value, below_only 256 n less) refl

-- ---- addresses

-- Four octets as a 32-bit number, and the octets of that number.
joined : (a b c d : ℕ) → a < 256 → b < 256 → c < 256 → d < 256
    → (let n = a * 16777216 + b * 65536 + c * 256 + d in
    (n < 2 ^ 32) × (n / 16777216 ≡ a) × (n / 65536 % 256 ≡ b) × (n / 256 % 256 ≡ c) × (n % 256 ≡ d))
joined a b c d la lb lc ld = (omega arith, omega arith, omega arith, omega arith, omega arith)

address_found : (a b c d : List ℕ) → IsDigits a → IsDigits b → IsDigits c → IsDigits d
    → IfSome (address_of a b c d) (AreOctets a b c d)
unfolding address_of
address_found a b c d sa sb sc sd =
    IfSome_bind _ (octet_at a) _ (octet_found a sa) (λ w hw.
    IfSome_bind _ (octet_at b) _ (octet_found b sb) (λ x hx.
    IfSome_bind _ (octet_at c) _ (octet_found c sc) (λ y hy.
    IfSome_bind _ (octet_at d) _ (octet_found d sd) (λ z hz.
    let all = joined w x y z hw.0 hx.0 hy.0 hz.0 in
    (all.0, rw all.1 hw.1, rw all.2 hx.1, rw all.3 hy.1, rw all.4 hz.1)))))

address_only : (a b c d : List ℕ) (n : ℕ) → IsDigits a → IsDigits b → IsDigits c → IsDigits d
    → AreOctets a b c d n → address_of a b c d ≡ Some n
unfolding address_of
address_only a b c d n sa sb sc sd m =
    let small : n < 2 ^ 32 = m.0 in
    let whole : n / 16777216 * 16777216 + n / 65536 % 256 * 65536 + n / 256 % 256 * 256 + n % 256 ≡ n =
    omega arith in
    rw (
      octet_only a (n / 16777216) sa (omega arith) m.1,
      octet_only b (n / 65536 % 256) sb (omega arith) m.2,
      octet_only c (n / 256 % 256) sc (omega arith) m.3,
      octet_only d (n % 256) sd (omega arith) m.4,
    )
    (ap (λ (k : ℕ). Some k) whole)

-- ---- the tokens of lexemes

-- The bytes between the quotes of a string.
between : (s bytes : List ℕ) → bytes ≡ 34 ∷ s ++ 34 ∷ [] → take (length bytes - 2) (drop 1 bytes) ≡ s
between s bytes e =
    let long : length (34 ∷ s ++ 34 ∷ []) - 2 ≡ length s = omega (arith, length-append s (34 ∷ [])) in
    rw (e, long) (take-append_seam s (34 ∷ []))

pub meaning_found : (p : Lexeme) (bytes : List ℕ) → SpellsLexeme p bytes
    → IfSome (meaning p bytes) (λ tokens. HasTokens p bytes tokens)
meaning_found (name w) bytes s = ap (λ (t : List ℕ). one (word t) bytes) s.0
meaning_found (digits n) bytes s =
    IfSome_bind _ (decimal_at n) _ (decimal_found n s.1)
    (λ v h. (h.0, ap (λ (k : ℕ). one (number k) bytes) h.1))
meaning_found (hexadecimal n) bytes s = grind (arith, hexadecimal_is, s.1, IfSome_bind, digits_value, below_found)
meaning_found (dotted_quad a b c d) bytes s =
    IfSome_bind _ (address_of a b c d) _ (address_found a b c d s.1 s.2 s.3 s.4)
    (λ n h. (n, h, refl))
meaning_found (quoted q) bytes s = ap (λ (t : List ℕ). one (string t) bytes) (between q bytes s.0)
meaning_found p bytes s = refl

pub meaning_only : (p : Lexeme) (bytes : List ℕ) (tokens : List LexedToken) → SpellsLexeme p bytes
    → HasTokens p bytes tokens → meaning p bytes ≡ Some tokens
meaning_only (name w) bytes tokens s m = cc (s.0, m)
meaning_only (digits n) bytes tokens s m = rw (decimal_only n s.1 m.0) (cc m.1)
meaning_only (hexadecimal n) bytes tokens s m = grind (arith, hexadecimal_is, s.1, below_only, digits_value, m.0, m.1)
meaning_only (dotted_quad a b c d) bytes tokens s m = rw (address_only a b c d m.0 s.1 s.2 s.3 s.4 m.1) (cc m.2)
meaning_only (quoted q) bytes tokens s m = cc (m, between q bytes s.0)
meaning_only p bytes tokens s m = cc m
