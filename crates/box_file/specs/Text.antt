-- Lexical structure of a box file: lines, words, decimal numbers, dotted addresses (own).
use Rattle.std.specs.Prelude.{ℕ, ◌/◌, ◌%◌, ◌==◌, ◌&&◌, ◌||◌, not, Bool, true, false, List, []}
use Rattle.std.specs.Prelude.{◌∷◌, ◌++◌, length, filter, if◌then◌else◌}
use Rattle.std.specs.List.{list_all}
use Rattle.std.specs.Char.{is_ascii_digit}
use Rattle.std.specs.Fmt.{decimal}

-- a byte put at the front of the first part
abbrev pub onto_first : ℕ → List (List ℕ) → List (List ℕ)
onto_first b [] = (b ∷ []) ∷ []
onto_first b (p ∷ ps) = (b ∷ p) ∷ ps

-- the parts of a text: each ends with a byte that passes, which is dropped and which the last part may lack
abbrev pub parts_of : (ℕ → Bool) → List ℕ → List (List ℕ)
parts_of ends [] = []
parts_of ends (b ∷ bs) = if ends b then [] ∷ parts_of ends bs else onto_first b (parts_of ends bs)

abbrev pub is_newline : ℕ → Bool
is_newline b = b == 10

-- a space or a tab
abbrev pub is_blank : ℕ → Bool
is_blank b = b == 32 || b == 9

abbrev pub is_nonempty : {A : Type 0} → List A → Bool
is_nonempty [] = false
is_nonempty (x ∷ xs) = true

-- the bytes before the first `#`
abbrev pub before_comment : List ℕ → List ℕ
before_comment [] = []
before_comment (b ∷ bs) = if b == 35 then [] else b ∷ before_comment bs

-- the words of a line: separated by blanks, up to a comment
abbrev pub words_of : List ℕ → List (List ℕ)
words_of line = filter is_nonempty (parts_of is_blank (before_comment line))

abbrev pub lines_of : List ℕ → List (List ℕ)
lines_of = parts_of is_newline

-- digits, without a leading zero
abbrev pub is_numeral : List ℕ → Bool
is_numeral [] = false
is_numeral (d ∷ ds) = list_all is_ascii_digit (d ∷ ds) && (not (d == 48) || length ds == 0)

-- an address in dotted decimal, the most significant byte first
abbrev pub dotted : ℕ → List ℕ
dotted a =
    decimal (a / 16777216) ++ 46 ∷ decimal (a / 65536 % 256) ++ 46 ∷ decimal (a / 256 % 256) ++ 46
    ∷ decimal (a % 256)

-- a prefix in CIDR notation (RFC 4632, section 3.1)
abbrev pub dotted_prefix : ℕ → ℕ → List ℕ
dotted_prefix a prefix = dotted a ++ 47 ∷ decimal prefix
