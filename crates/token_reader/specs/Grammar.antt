-- Grammars over tokens. A production defines by its EBNF what spells a part (docs/SPEC.md; the notation
-- is (own)). Its parser and its lookahead sets (`specs/steps/Parser.antt`) come with it; nobody has to
-- believe them.
use Rattle.std.specs.Prelude.{◌≡◌, ℕ, List, [], ◌∷◌, Bool, ◌⊎◌, Option, Some, None, IsTrue}
use Rattle.nft_lexer.specs.declared.token.Punctuator.{Punctuator}
use Rattle.nft_lexer.specs.Terminal as terminals
use Rattle.nft_lexer.specs.Terminal.{Terminal}
use Rattle.token_reader.specs.Repeats.{Many, Ends, SomeEnds}
use Rattle.token_reader.specs.steps.Reading.{word_at, number_at, address_at, string_at}
use Rattle.token_reader.specs.steps.Parser as parser
use Rattle.token_reader.specs.steps.Parser.{Parser}
pub use Rattle.token_reader.specs.steps.Lookaheads.{Lookahead, line, this_punctuator, this_word, any_word, any_number, any_address}
pub use Rattle.token_reader.specs.steps.Lookaheads.{any_string, matches_lookahead, begins_with}
pub use Rattle.token_reader.specs.steps.Parser.{end_lookaheads, when}

-- A production for parts of type A.
pub record Grammar (A : Type 0) : Type 1 where
  -- The tokens `from` are a spelling of the part, and then `to`.
  pub spells : A → List Terminal → List Terminal → Type 0
  -- FOLLOW: lookaheads that would continue a spelling.
  pub follow : List Lookahead
  -- The parser; FIRST: lookaheads of a nonempty spelling; whether the spelling may be empty.
  pub read : List Terminal → Option (A × List Terminal)
  pub first : List Lookahead
  pub empty : Bool

abbrev parser_of : {A : Type 0} → Grammar A → Parser A
parser_of p = record { read = p.read; first = p.first; follow = p.follow; empty = p.empty }

abbrev pub grammar_of : {A : Type 0} → (A → List Terminal → List Terminal → Type 0) → Parser A → Grammar A
grammar_of P h = record { spells = P; follow = h.follow; read = h.read; first = h.first; empty = h.empty }

-- "w", and a punctuator
abbrev pub keyword : List ℕ → Grammar Unit
keyword w = grammar_of (λ x from to. from ≡ terminals.word w ∷ to) (parser.keyword w)

abbrev pub punctuation : Punctuator → Grammar Unit
punctuation m = grammar_of (λ x from to. from ≡ terminals.punctuator m ∷ to) (parser.punctuation m)

-- WORD, NUM, ADDR, STRING
abbrev pub a_word : Grammar (List ℕ)
a_word = grammar_of (λ x from to. from ≡ terminals.word x ∷ to) (parser.token word_at any_word)

abbrev pub a_number : Grammar ℕ
a_number = grammar_of (λ x from to. from ≡ terminals.number x ∷ to) (parser.token number_at any_number)

abbrev pub an_address : Grammar ℕ
an_address = grammar_of (λ x from to. from ≡ terminals.address x ∷ to) (parser.token address_at any_address)

abbrev pub a_string : Grammar (List ℕ)
a_string = grammar_of (λ x from to. from ≡ terminals.string x ∷ to) (parser.token string_at any_string)

-- {end}, and end {end}
abbrev pub ends : Grammar Unit
ends = grammar_of (λ x from to. Ends from to) parser.ends

abbrev pub some_ends : Grammar Unit
some_ends = grammar_of (λ x from to. SomeEnds from to) parser.some_ends

infixr 5 ◌⨾◌
infixr 5 ◌▹◌
infixr 5 ◌◃◌
infixr 4 ◌∣◌
-- Sequence: the one, then the other.
abbrev pub ◌⨾◌ : {A B : Type 0} → Grammar A → Grammar B → Grammar (A × B)
p ⨾ q = grammar_of (λ x from to. (mid : List Terminal) × p.spells x.0 from mid × q.spells x.1 mid to)
    (parser.then_both (parser_of p) (parser_of q))

-- Sequence of which the first part, or the second, has no value.
abbrev pub ◌▹◌ : {B : Type 0} → Grammar Unit → Grammar B → Grammar B
p ▹ q = grammar_of (λ y from to. (mid : List Terminal) × p.spells tt from mid × q.spells y mid to)
    (parser.then_second (parser_of p) (parser_of q))

abbrev pub ◌◃◌ : {A : Type 0} → Grammar A → Grammar Unit → Grammar A
p ◃ q = grammar_of (λ x from to. (mid : List Terminal) × p.spells x from mid × q.spells tt mid to)
    (parser.then_first (parser_of p) (parser_of q))

-- Alternatives.
abbrev pub ◌∣◌ : {A : Type 0} → Grammar A → Grammar A → Grammar A
p ∣ q = grammar_of (λ x from to. p.spells x from to ⊎ q.spells x from to)
    (parser.either (parser_of p) (parser_of q))

-- Option: [x]
abbrev pub OneOrNone : {A : Type 0} → (A → List Terminal → List Terminal → Type 0) → Option A → List Terminal
    → List Terminal → Type 0
OneOrNone P None from to = from ≡ to
OneOrNone P (Some x) from to = P x from to

abbrev pub maybe : {A : Type 0} → Grammar A → Grammar (Option A)
maybe p = grammar_of (OneOrNone p.spells) (parser.maybe (parser_of p))

-- Repetition: {x}
abbrev pub many : {A : Type 0} → Grammar A → Grammar (List A)
many p = grammar_of (Many p.spells) (parser.many (parser_of p))

-- The part mapped by a function; mapped by a partial one; restricted by a test.
abbrev pub made : {A B : Type 0} → (A → B) → Grammar A → Grammar B
made {A} f p = grammar_of (λ y from to. (x : A) × (y ≡ f x) × p.spells x from to)
    (parser.made f (parser_of p))

abbrev pub named : {A B : Type 0} → (A → Option B) → Grammar A → Grammar B
named {A} f p = grammar_of (λ y from to. (x : A) × (f x ≡ Some y) × p.spells x from to)
    (parser.named f (parser_of p))

abbrev pub passing : {A : Type 0} → (A → Bool) → Grammar A → Grammar A
passing test p = grammar_of (λ x from to. p.spells x from to × IsTrue (test x))
    (parser.passing test (parser_of p))

-- One of these keywords, each with its value.
abbrev pub one_of : {A : Type 0} → List (List ℕ × A) → Grammar A
one_of [] = grammar_of (λ x from to. ⊥) parser.nothing
one_of (row ∷ rows) = made (λ u. row.1) (keyword row.0) ∣ one_of rows

-- x {s x}, and x {end {end} x} {end}
abbrev pub Separated : {A : Type 0} → Grammar Unit → Grammar A → List A → List Terminal → List Terminal
    → Type 0
Separated s p [] from to = ⊥
Separated s p (x ∷ xs) from to = (a : List Terminal) × p.spells x from a × Many (s ▹ p).spells xs a to

abbrev pub separated : {A : Type 0} → Grammar Unit → Grammar A → Grammar (List A)
separated s p = grammar_of (Separated s p) (parser.separated (parser_of s) (parser_of p))

abbrev pub lines : {A : Type 0} → Grammar A → Grammar (List A)
lines p = grammar_of (λ xs from to. (a : List Terminal) × Separated some_ends p xs from a × Ends a to)
    (parser.lines (parser_of p))
