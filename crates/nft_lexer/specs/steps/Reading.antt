-- Readers: each gives the lexeme at the start of a text, and the rest of the text.
use Rattle.std.specs.Prelude.{ℕ, ◌+◌, ◌-◌, ◌*◌, ◌^◌, List, [], ◌∷◌, length, take, drop, Bool, ◌==◌, nat_lt, ◌&&◌}
use Rattle.std.specs.Prelude.{Option, Some, None, option_map, option_to_list, ok_or, if◌then◌else◌}
use Rattle.std.specs.Prelude.{slice_index, Result, Ok, Err}
use Rattle.std.specs.Char.{digit_value, is_ascii_digit, is_ascii_hexdigit}
use Rattle.std.specs.List.{prefix_len}
use Rattle.std.specs.Option.{option_map_or, option_or}
use Rattle.list_laws.specs.Options.{◌>>=◌}
use Rattle.nft_lexer.specs.declared.token.Punctuator.{Punctuator}
use Rattle.nft_lexer.specs.declared.token.Punctuator.TheVariants.{OpenBrace, CloseBrace, OpenParenthesis}
use Rattle.nft_lexer.specs.declared.token.Punctuator.TheVariants.{CloseParenthesis, Comma, Semicolon, Colon, Dot}
use Rattle.nft_lexer.specs.declared.token.Punctuator.TheVariants.{Slash, Minus, Plus, Equals, At, Ampersand, Bar}
use Rattle.nft_lexer.specs.declared.token.Punctuator.TheVariants.{EqualTo, NotEqualTo, AtMost, AtLeast, Below, Above}
use Rattle.nft_lexer.specs.declared.lexeme.Class.{Class}
use Rattle.nft_lexer.specs.declared.lexeme.Class.TheVariants as classes
use Rattle.nft_lexer.specs.declared.lexeme.LexemeKind.{LexemeKind}
use Rattle.nft_lexer.specs.declared.lexeme.LexemeKind.TheVariants as lexeme_kinds
use Rattle.nft_lexer.specs.declared.token.TokenKind.TheVariants as token_kinds
use Rattle.nft_lexer.specs.declared.lexeme.Run.{Run}
use Rattle.nft_lexer.specs.declared.lexeme.Run.TheVariants as runs
use Rattle.nft_lexer.specs.declared.fault.LexFault.{LexFault}
use Rattle.nft_lexer.specs.declared.fault.LexFault.TheVariants as lexical
use Rattle.nft_lexer.specs.declared.lexing.Fault.{Fault}
use Rattle.nft_lexer.specs.declared.lexing.Fault.TheVariants as faults
use Rattle.nft_lexer.specs.Terminal.{Terminal, number, address, LexedToken}
use Rattle.nft_lexer.specs.TokenViews.{terminal_of}
use Rattle.nft_lexer.specs.Lexing.{Lexeme, blank, line_continuation, comment, line_end, name, digits, hexadecimal}
use Rattle.nft_lexer.specs.Lexing.{dotted_quad, quoted, punctuation, is_blank, begins_word, continues_word}
use Rattle.nft_lexer.specs.Lexing.{is_no_newline, is_string_byte, punctuator_text, IsLongestLexeme, HasTokens}

-- ---- bytes

abbrev pub class_of : ℕ → Class
class_of b =
    if is_ascii_digit b then classes.Digit
    else (if begins_word b then classes.Letter
    else (if is_blank b then classes.Blank
    else (if b == 10 then classes.LineEnd
    else (if b == 92 then classes.Backslash
    else (if b == 35 then classes.Hash
    else (if b == 34 then classes.Quote
    else classes.Other))))))

-- Whether a byte continues the run.
abbrev pub continues_run : Run → ℕ → Bool
continues_run runs.Word = continues_word
continues_run runs.Line = is_no_newline
continues_run runs.String = is_string_byte
continues_run runs.Decimal = is_ascii_digit
continues_run runs.Hexadecimal = is_ascii_hexdigit

-- The first punctuator of the list that starts with the byte.
abbrev pub punctuator_from : ℕ → List Punctuator → Option Punctuator
punctuator_from b [] = None
punctuator_from b (m ∷ ms) = if b == slice_index (punctuator_text m) 0 then Some m else punctuator_from b ms

abbrev pub short_punctuators : List Punctuator
short_punctuators = OpenBrace ∷ CloseBrace ∷ OpenParenthesis ∷ CloseParenthesis ∷ Comma ∷ Semicolon ∷ Colon
    ∷ Dot ∷ Slash ∷ Minus ∷ Plus ∷ Equals ∷ At ∷ Ampersand ∷ Bar ∷ Below ∷ Above ∷ []

-- Each ends with `=`.
abbrev pub long_punctuators : List Punctuator
long_punctuators = EqualTo ∷ NotEqualTo ∷ AtMost ∷ AtLeast ∷ []

-- The text after this byte, if it comes first.
abbrev pub after_byte : ℕ → List ℕ → Option (List ℕ)
after_byte k [] = None
after_byte k (b ∷ bs) = if b == k then Some bs else None

-- The leading bytes that pass the test.
abbrev pub front : (ℕ → Bool) → List ℕ → List ℕ
front test ts = take (prefix_len test ts) ts

-- The text after them.
abbrev pub behind : (ℕ → Bool) → List ℕ → List ℕ
behind test ts = drop (prefix_len test ts) ts

-- ---- numbers and addresses

-- The leading bytes that pass the test, at least one.
unfoldable pub run_at : (ℕ → Bool) → List ℕ → Option (List ℕ × List ℕ)
run_at test [] = None
run_at test (b ∷ bs) = if test b then Some (b ∷ front test bs, behind test bs) else None

abbrev pub is_zero : List ℕ → Bool
is_zero ds = length ds == 1 && slice_index ds 0 == 48

-- After the digits `first`: if they are a single zero, `x` and hexadecimal digits.
unfoldable pub hexadecimal_at : List ℕ → List ℕ → Option (Lexeme × List ℕ)
hexadecimal_at first ts = do
  r ← after_byte 120 ts
  x ← if is_zero first then run_at is_ascii_hexdigit r else None
  Some (hexadecimal x.0, x.1)

-- A dot, and the digits after it.
unfoldable pub next_octet_at : List ℕ → Option (List ℕ × List ℕ)
next_octet_at ts = after_byte 46 ts >>= run_at is_ascii_digit

-- After the digits `first`: three more octets.
unfoldable pub dotted_quad_at : List ℕ → List ℕ → Option (Lexeme × List ℕ)
dotted_quad_at first ts = do
  b ← next_octet_at ts
  c ← next_octet_at b.1
  d ← next_octet_at c.1
  Some (dotted_quad first b.0 c.0 d.0, d.1)

unfoldable pub number_at : List ℕ → Option (Lexeme × List ℕ)
number_at ts = run_at is_ascii_digit ts
    >>= (λ a. option_or (hexadecimal_at a.0 a.1)
    (option_or (dotted_quad_at a.0 a.1) (Some (digits a.0, a.1))))

-- More than one digit, of which the first is a zero.
abbrev pub has_leading_zero : List ℕ → Bool
has_leading_zero ds = nat_lt 1 (length ds) && slice_index ds 0 == 48

-- The number, if it is below the bound.
abbrev pub below : ℕ → ℕ → Option ℕ
below most n = if nat_lt n most then Some n else None

-- The number with one more digit, if it fits 64 bits.
abbrev pub with_digit : ℕ → ℕ → ℕ → Option ℕ
with_digit radix n b = if nat_lt (digit_value b) radix then below (2 ^ 64) (n * radix + digit_value b)
    else None

-- The number with these further digits, if it fits 64 bits.
unfoldable pub value_after : ℕ → ℕ → List ℕ → Option ℕ
value_after radix n [] = Some n
value_after radix n (b ∷ bs) = with_digit radix n b >>= (λ m. value_after radix m bs)

-- The value of decimal digits without a leading zero.
unfoldable pub decimal_at : List ℕ → Option ℕ
decimal_at ds = if has_leading_zero ds then None else value_after 10 0 ds

-- The value of an octet's digits.
unfoldable pub octet_at : List ℕ → Option ℕ
octet_at ds = decimal_at ds >>= below 256

-- The address whose octets have these digits, the first the most significant.
unfoldable pub address_of : (first second third fourth : List ℕ) → Option ℕ
address_of first second third fourth = do
  a ← octet_at first
  b ← octet_at second
  c ← octet_at third
  d ← octet_at fourth
  Some (a * 16777216 + b * 65536 + c * 256 + d)

-- ---- the kinds of lexemes

-- What the code keeps of a lexeme.
abbrev pub lexeme_kind : Lexeme → LexemeKind
lexeme_kind line_end = lexeme_kinds.Token token_kinds.NewLine
lexeme_kind (name w) = lexeme_kinds.Token token_kinds.Word
lexeme_kind (digits n) = lexeme_kinds.Number (decimal_at n)
lexeme_kind (hexadecimal n) = lexeme_kinds.Number (value_after 16 0 n)
lexeme_kind (dotted_quad a b c d) = lexeme_kinds.Address (address_of a b c d)
lexeme_kind (quoted s) = lexeme_kinds.Token token_kinds.String
lexeme_kind (punctuation m) = lexeme_kinds.Token (token_kinds.Punctuator m)
lexeme_kind p = lexeme_kinds.Blank

-- The same, with the rest of the text.
abbrev pub scanned_kind : Option (Lexeme × List ℕ) → Option (LexemeKind × List ℕ)
scanned_kind o = option_map (λ x. (lexeme_kind x.0, x.1)) o

-- ---- lexemes

-- After a quote: the bytes up to the next one on the line.
unfoldable pub quoted_at : List ℕ → Option (Lexeme × List ℕ)
quoted_at ts = do
  r ← after_byte 34 (behind is_string_byte ts)
  Some (quoted (front is_string_byte ts), r)

-- This byte and `=`.
unfoldable pub long_punctuator_at : ℕ → List ℕ → Option (Lexeme × List ℕ)
long_punctuator_at b bs = do
  m ← punctuator_from b long_punctuators
  r ← after_byte 61 bs
  Some (punctuation m, r)

unfoldable pub punctuator_at : ℕ → List ℕ → Option (Lexeme × List ℕ)
punctuator_at b bs = option_or (long_punctuator_at b bs)
    (punctuator_from b short_punctuators >>= (λ m. Some (punctuation m, bs)))

-- The lexeme that starts with a byte of this class.
unfoldable pub class_at : Class → ℕ → List ℕ → Option (Lexeme × List ℕ)
class_at classes.Blank b bs = Some (blank, bs)
class_at classes.LineEnd b bs = Some (line_end, bs)
class_at classes.Backslash b bs = after_byte 10 bs >>= (λ r. Some (line_continuation, r))
class_at classes.Hash b bs = Some (comment (front is_no_newline bs), behind is_no_newline bs)
class_at classes.Quote b bs = quoted_at bs
class_at classes.Digit b bs = number_at (b ∷ bs)
class_at classes.Letter b bs = Some (name (b ∷ front continues_word bs), behind continues_word bs)
class_at classes.Other b bs = punctuator_at b bs

-- The longest leading lexeme.
unfoldable pub lexeme_at : List ℕ → Option (Lexeme × List ℕ)
lexeme_at [] = None
lexeme_at (b ∷ bs) = class_at (class_of b) b bs

-- ---- tokens

abbrev pub one : Terminal → List ℕ → List LexedToken
one s bytes = record { terminal = s; text = bytes } ∷ []

-- The tokens of a lexeme of this kind with these bytes; none for a number or an address out of range.
abbrev pub tokens_of : LexemeKind → List ℕ → Option (List LexedToken)
tokens_of lexeme_kinds.Blank bytes = Some []
tokens_of (lexeme_kinds.Token k) bytes = Some (one (terminal_of k bytes) bytes)
tokens_of (lexeme_kinds.Number n) bytes = n >>= (λ v. Some (one (number v) bytes))
tokens_of (lexeme_kinds.Address a) bytes = a >>= (λ v. Some (one (address v) bytes))

-- The tokens of a lexeme with these bytes.
abbrev pub meaning : Lexeme → List ℕ → Option (List LexedToken)
meaning p bytes = tokens_of (lexeme_kind p) bytes

abbrev pub listed : {A B : Type 0} → (A → B) → Option A → List B
listed f o = option_to_list (option_map f o)

-- The result with its value mapped.
abbrev pub map_ok : {A B : Type 0} → (A → B) → Result A Fault → Result B Fault
map_ok f (Ok x) = Ok (f x)
map_ok f (Err e) = Err e

-- The tokens of the longest leading lexeme and the rest of the text, or the fault.
unfoldable pub next_at : List ℕ → Result (List LexedToken × List ℕ) Fault
next_at ts =
    option_map_or (λ x. map_ok (λ tokens. (tokens, x.1))
    (ok_or (tokens_of x.0 (take (length ts - length x.1) ts)) faults.Number))
    (scanned_kind (lexeme_at ts))
    (Err (if slice_index ts 0 == 34 then faults.OpenString else faults.Byte))

-- From `from` to `to` there is one longest lexeme, with these tokens.
abbrev pub ScansOne : List ℕ → List LexedToken → List ℕ → Type 0
ScansOne from tokens to = (p : Lexeme) × (bytes : List ℕ) × IsLongestLexeme p bytes from to
    × HasTokens p bytes tokens

abbrev pub at_line : Fault → ℕ → LexFault
at_line faults.Byte line = lexical.Byte line
at_line faults.OpenString line = lexical.OpenString line
at_line faults.Number line = lexical.Number line

-- what the reader of a lexeme looks through
unfoldable pub lexemes : Unit {0}
unfolding lexeme_at class_at quoted_at
lexemes = tt
