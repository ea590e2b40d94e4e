-- Tokenization by longest match, from left to right (nft(8), "Lexical conventions"; the token classes are
-- those of nft's scanner, narrowed to this profile).
use Rattle.std.specs.Prelude.{◌≡◌, ◌≢◌, ℕ, ◌+◌, ◌/◌, ◌%◌, ◌<◌, ◌≤◌, ◌^◌, ◌==◌, ◌||◌, not, List, [], ◌∷◌, ◌++◌, length}
use Rattle.std.specs.Prelude.{count_by, Bool, IsTrue, ◌⊎◌, codes, slice_index}
use Rattle.std.specs.List.{list_all}
use Rattle.std.specs.Char.{is_ascii_digit, is_ascii_hexdigit, is_ascii_alphanumeric, is_ascii_alphabetic}
use Rattle.std.specs.Fmt.{decimal}
use Rattle.std.specs.Str.Parse.{digits_value}
use Rattle.nft_lexer.specs.declared.token.Punctuator.{Punctuator}
use Rattle.nft_lexer.specs.declared.token.Punctuator.TheVariants.{OpenBrace, CloseBrace, OpenParenthesis, CloseParenthesis}
use Rattle.nft_lexer.specs.declared.token.Punctuator.TheVariants.{Comma, Semicolon, Colon, Dot, Slash, Minus, Plus, Equals}
use Rattle.nft_lexer.specs.declared.token.Punctuator.TheVariants.{At, Ampersand, Bar, EqualTo, NotEqualTo, AtMost, AtLeast}
use Rattle.nft_lexer.specs.declared.token.Punctuator.TheVariants.{Below, Above}
use Rattle.nft_lexer.specs.declared.fault.LexFault.{LexFault}
use Rattle.nft_lexer.specs.declared.fault.LexFault.TheVariants.{Byte, OpenString, Number, TooLong}
use Rattle.nft_lexer.specs.Terminal.{newline, punctuator, word, number, address, string, LexedToken}

-- ---- lexemes and their spellings

-- A lexeme: a blank, a comment, or what becomes a token.
pub data Lexeme : Type 0 where
  blank : Lexeme
  line_continuation : Lexeme
  comment : List ℕ → Lexeme
  line_end : Lexeme
  name : List ℕ → Lexeme
  digits : List ℕ → Lexeme
  hexadecimal : List ℕ → Lexeme
  -- Four runs of digits with dots between them.
  dotted_quad : (first second third fourth : List ℕ) → Lexeme
  quoted : List ℕ → Lexeme
  punctuation : Punctuator → Lexeme

-- Space, tab or carriage return.
abbrev pub is_blank : ℕ → Bool
is_blank b = b == 32 || b == 9 || b == 13

-- A letter or `_`.
abbrev pub begins_word : ℕ → Bool
begins_word b = is_ascii_alphabetic b || b == 95

-- A letter, a digit, `_`, `-`, `.` or `/`.
abbrev pub continues_word : ℕ → Bool
continues_word b = is_ascii_alphanumeric b || b == 95 || b == 45 || b == 46 || b == 47

abbrev pub IsWord : List ℕ → Type 0
IsWord [] = ⊥
IsWord (b ∷ bs) = IsTrue (begins_word b) × IsTrue (list_all continues_word bs)

-- One decimal digit or more.
abbrev pub IsDigits : List ℕ → Type 0
IsDigits bytes = (bytes ≢ []) × IsTrue (list_all is_ascii_digit bytes)

-- One hexadecimal digit or more, in either case.
abbrev pub IsHexadecimal : List ℕ → Type 0
IsHexadecimal bytes = (bytes ≢ []) × IsTrue (list_all is_ascii_hexdigit bytes)

abbrev pub is_no_newline : ℕ → Bool
is_no_newline b = not (b == 10)

-- Any byte but `"` and a newline.
abbrev pub is_string_byte : ℕ → Bool
is_string_byte b = not (b == 34 || b == 10)

abbrev pub punctuator_text : Punctuator → List ℕ
punctuator_text OpenBrace = codes "{"
punctuator_text CloseBrace = codes "}"
punctuator_text OpenParenthesis = codes "("
punctuator_text CloseParenthesis = codes ")"
punctuator_text Comma = codes ","
punctuator_text Semicolon = codes ";"
punctuator_text Colon = codes ":"
punctuator_text Dot = codes "."
punctuator_text Slash = codes "/"
punctuator_text Minus = codes "-"
punctuator_text Plus = codes "+"
punctuator_text Equals = codes "="
punctuator_text At = codes "@"
punctuator_text Ampersand = codes "&"
punctuator_text Bar = codes "|"
punctuator_text EqualTo = codes "=="
punctuator_text NotEqualTo = codes "!="
punctuator_text AtMost = codes "<="
punctuator_text AtLeast = codes ">="
punctuator_text Below = codes "<"
punctuator_text Above = codes ">"

-- The spellings of a lexeme.
abbrev pub SpellsLexeme : Lexeme → List ℕ → Type 0
SpellsLexeme blank bytes = (b : ℕ) × (bytes ≡ b ∷ []) × IsTrue (is_blank b)
-- A backslash and the newline after it.
SpellsLexeme line_continuation bytes = bytes ≡ 92 ∷ 10 ∷ []
-- `#` and all bytes before the newline.
SpellsLexeme (comment c) bytes = (bytes ≡ 35 ∷ c) × IsTrue (list_all is_no_newline c)
SpellsLexeme line_end bytes = bytes ≡ 10 ∷ []
SpellsLexeme (name w) bytes = (bytes ≡ w) × IsWord w
SpellsLexeme (digits n) bytes = (bytes ≡ n) × IsDigits n
-- `0x` and hexadecimal digits.
SpellsLexeme (hexadecimal n) bytes = (bytes ≡ 48 ∷ 120 ∷ n) × IsHexadecimal n
SpellsLexeme (dotted_quad a b c d) bytes =
    (bytes ≡ a ++ 46 ∷ b ++ 46 ∷ c ++ 46 ∷ d) × IsDigits a × IsDigits b × IsDigits c × IsDigits d
SpellsLexeme (quoted s) bytes = (bytes ≡ 34 ∷ s ++ 34 ∷ []) × IsTrue (list_all is_string_byte s)
SpellsLexeme (punctuation m) bytes = bytes ≡ punctuator_text m

-- `from` is these bytes, a spelling of the lexeme, and then `to`; no lexeme at the start of `from` is longer.
pub record IsLongestLexeme (p : Lexeme) (bytes from to : List ℕ) : Type 0 where
  pub joined : from ≡ bytes ++ to
  pub spelled : SpellsLexeme p bytes
  pub longest : (q : Lexeme) (others rest : List ℕ) → SpellsLexeme q others → from ≡ others ++ rest
      → length others ≤ length bytes

-- ---- tokens

-- Digits without a leading zero, of a number below 2^64 (own: nft reads a leading zero as octal).
abbrev pub IsValidDecimal : List ℕ → Type 0
IsValidDecimal ds = (1 < length ds → slice_index ds 0 ≢ 48) × (digits_value 10 ds < 2 ^ 64)

-- The dotted-quad form of the address: octets from 0 to 255 without leading zeros.
abbrev pub AreOctets : List ℕ → List ℕ → List ℕ → List ℕ → ℕ → Type 0
AreOctets a b c d n =
    (n < 2 ^ 32) × (a ≡ decimal (n / 16777216)) × (b ≡ decimal (n / 65536 % 256))
    × (c ≡ decimal (n / 256 % 256))
    × (d ≡ decimal (n % 256))

-- The tokens of a lexeme with these bytes: none for blanks and comments, one for any other.
abbrev pub HasTokens : Lexeme → List ℕ → List LexedToken → Type 0
HasTokens blank bytes tokens = tokens ≡ []
HasTokens line_continuation bytes tokens = tokens ≡ []
HasTokens (comment c) bytes tokens = tokens ≡ []
HasTokens line_end bytes tokens = tokens ≡ record { terminal = newline; text = bytes } ∷ []
HasTokens (name w) bytes tokens = tokens ≡ record { terminal = word w; text = bytes } ∷ []
HasTokens (digits n) bytes tokens =
    IsValidDecimal n × (tokens ≡ record { terminal = number (digits_value 10 n); text = bytes } ∷ [])
HasTokens (hexadecimal n) bytes tokens =
    (digits_value 16 n < 2 ^ 64) × (tokens ≡ record { terminal = number (digits_value 16 n); text = bytes }
    ∷ [])
HasTokens (dotted_quad a b c d) bytes tokens =
    (n : ℕ) × AreOctets a b c d n × (tokens ≡ record { terminal = address n; text = bytes } ∷ [])
HasTokens (quoted s) bytes tokens = tokens ≡ record { terminal = string s; text = bytes } ∷ []
HasTokens (punctuation m) bytes tokens = tokens ≡ record { terminal = punctuator m; text = bytes } ∷ []

-- From `from` to `to` there are these lexemes, each the longest at its position, with these tokens.
abbrev pub ScansInto : List Lexeme → List ℕ → List ℕ → List LexedToken → Type 0
ScansInto [] from to tokens = (from ≡ to) × (tokens ≡ [])
ScansInto (p ∷ ps) from to tokens =
    (bytes mid : List ℕ) × (front others : List LexedToken) × IsLongestLexeme p bytes from mid
    × HasTokens p bytes front
    × (tokens ≡ front ++ others) × ScansInto ps mid to others

abbrev pub MOST_BYTES : ℕ
MOST_BYTES = 1048576

-- The text has at most MOST_BYTES bytes (own), and its lexemes up to its end have these tokens.
pub record TokenizesTo (text : List ℕ) (tokens : List LexedToken) : Type 0 where
  pub fits : length text ≤ MOST_BYTES
  pub lexemes : List Lexeme
  pub scan : ScansInto lexemes text [] tokens

-- ---- faults

-- No lexeme starts here.
abbrev pub BeginsNoLexeme : List ℕ → Type 0
BeginsNoLexeme rest = (q : Lexeme) (others after : List ℕ) → SpellsLexeme q others → rest ≡ others ++ after
    → ⊥

-- The faults at a nonempty text b ∷ bs (the codes are (own)).
pub data FaultAt (b : ℕ) (bs : List ℕ) (line : ℕ) (fault : LexFault) : Type 0 where
  -- A byte other than a quote that starts no lexeme.
  no_lexeme : b ≢ 34 → BeginsNoLexeme (b ∷ bs) → fault ≡ Byte line → FaultAt b bs line fault
  -- A quote that isn't closed on its line.
  open_string : b ≡ 34 → BeginsNoLexeme (b ∷ bs) → fault ≡ OpenString line → FaultAt b bs line fault
  -- A longest lexeme without tokens: a number or an address out of range.
  no_token : (p : Lexeme) (bytes after : List ℕ) → IsLongestLexeme p bytes (b ∷ bs) after
      → ((tokens : List LexedToken) → HasTokens p bytes tokens → ⊥) → fault ≡ Number line
      → FaultAt b bs line fault

-- The text starts with this fault; the empty text has none.
abbrev pub IsFaultAt : List ℕ → ℕ → LexFault → Type 0
IsFaultAt [] line fault = ⊥
IsFaultAt (b ∷ bs) line fault = FaultAt b bs line fault

-- The number of the line after these bytes, counted from 1.
abbrev pub line_after : List ℕ → ℕ
line_after done = count_by (λ b. b == 10) done + 1

-- The text isn't too long, all before `rest` is tokenized, and `rest` starts with this fault.
pub record FirstFault (text : List ℕ) (fault : LexFault) : Type 0 where
  pub fits : length text ≤ MOST_BYTES
  pub lexemes : List Lexeme
  pub done : List ℕ
  pub rest : List ℕ
  pub tokens : List LexedToken
  pub joined : text ≡ done ++ rest
  pub scan : ScansInto lexemes text rest tokens
  pub faulty : IsFaultAt rest (line_after done) fault

-- The fault of a text: that it is too long, or else its first fault.
abbrev pub HasLexFault : List ℕ → LexFault → Type 0
HasLexFault text fault = ((MOST_BYTES < length text) × (fault ≡ TooLong)) ⊎ FirstFault text fault
