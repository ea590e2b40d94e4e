-- Values, elements of sets and maps, and references to both (nft(8), "Sets", "Maps", "Elements", "Verdict
-- statement"; the EBNF is (own), as in docs/SPEC.md).
use Rattle.std.specs.Prelude.{◌≡◌, List, [], ◌∷◌, ◌++◌, ◌⊎◌, Option, codes, Bool, true, false, ◌||◌, not}
use Rattle.std.specs.Str.{bytes_eq}
use Rattle.nft_lexer.specs.declared.token.Punctuator.TheVariants.{OpenBrace, CloseBrace, Comma, Colon, Dot, Slash, Minus, At}
use Rattle.nft_lexer.specs.Terminal as terminals
use Rattle.nft_lexer.specs.Terminal.{Terminal, punctuator}
use Rattle.nft_tree.specs.Tree as tree
use Rattle.nft_tree.specs.Tree.{Text, ValueTree, RangeTree, KeyTree, ElementTree, DataTree, PairTree, VerdictTree}
use Rattle.nft_tree.specs.Tree.{SetRefTree, MapRefTree}
use Rattle.token_reader.specs.Repeats.{NoneOf, without_newlines}
use Rattle.token_reader.specs.Grammar.{Grammar, Separated, line, this_punctuator, any_word, any_number, any_address}
use Rattle.token_reader.specs.Grammar.{any_string, keyword, punctuation, a_word, a_number, an_address, a_string, one_of}
use Rattle.token_reader.specs.Grammar.{maybe, many, made, passing, ◌⨾◌, ◌▹◌, ◌◃◌, ◌∣◌}
use Rattle.nft_expressions.specs.steps.Reading.{value_at, range_at, key_at, up_to_brace_at}

-- value = NUM | ADDR | WORD | STRING
abbrev pub terminal_of : ValueTree → Terminal
terminal_of (tree.number n) = terminals.number n
terminal_of (tree.address a) = terminals.address a
terminal_of (tree.word w) = terminals.word w
terminal_of (tree.string s) = terminals.string s

abbrev pub value : Grammar ValueTree
value = record {
  spells = λ v from to. from ≡ terminal_of v ∷ to;
  read = value_at;
  first = any_number ∷ any_address ∷ any_word ∷ any_string ∷ [];
  follow = [];
  empty = false;
}

-- one = value | value "-" value | ADDR "/" NUM
abbrev pub ranges : Grammar RangeTree
ranges =
    made tree.one value ∣ made (λ x. tree.between x.0 x.1) (value ⨾ punctuation Minus ▹ value) ∣ made
    (λ x. tree.prefix x.0 x.1) (an_address ⨾ punctuation Slash ▹ a_number)

unfoldable pub range : Grammar RangeTree
range = record {
  spells = ranges.spells;
  read = range_at;
  first = value.first;
  follow = this_punctuator Minus ∷ this_punctuator Slash ∷ [];
  empty = false;
}

-- No punctuator is here that would continue a range.
abbrev pub EndsRange : List Terminal → Type 0
EndsRange = NoneOf (punctuator Minus ∷ punctuator Slash ∷ [])

-- "." value
abbrev pub next_value : Grammar ValueTree
next_value = punctuation Dot ▹ value

-- key = one | value "." value {"." value}
abbrev pub keys : Grammar KeyTree
keys = made tree.single range ∣ made (λ x. tree.joined (x.0 ∷ x.1.0 ∷ x.1.1))
    (value ⨾ next_value ⨾ many next_value)

unfoldable pub key : Grammar KeyTree
key = record {
  spells = keys.spells;
  read = key_at;
  first = value.first;
  follow = this_punctuator Dot ∷ this_punctuator Minus ∷ this_punctuator Slash ∷ [];
  empty = false;
}

-- ["comment" STRING]
unfoldable pub comment : Grammar (Option Text)
comment = maybe (keyword (codes "comment") ▹ a_string)

abbrev pub EndsComment : List Terminal → Type 0
EndsComment = NoneOf (terminals.word (codes "comment") ∷ [])

-- elem = key ["comment" STRING]
unfoldable pub element : Grammar ElementTree
element = made (λ x. record { key = x.0; comment = x.1 }) (key ⨾ comment)

-- verdict = "accept" | "drop" | "continue" | "return" | ("jump" | "goto") NAME
abbrev pub verdict_keywords : List (Text × VerdictTree)
verdict_keywords =
    (codes "accept", tree.accept) ∷ (codes "drop", tree.drop) ∷ (codes "continue", tree.continue) ∷
    (codes "return", tree.return) ∷ []

unfoldable pub verdict : Grammar VerdictTree
verdict =
    one_of verdict_keywords ∣ made tree.jump (keyword (codes "jump") ▹ a_word) ∣ made tree.goto
    (keyword (codes "goto") ▹ a_word)

abbrev pub is_verdict_word : Text → Bool
is_verdict_word w =
    bytes_eq w (codes "accept") || bytes_eq w (codes "drop") || bytes_eq w (codes "continue")
    || bytes_eq w (codes "return") || bytes_eq w (codes "jump") || bytes_eq w (codes "goto")

-- A word that starts a verdict is no value of a map's data.
abbrev pub is_data_value : ValueTree → Bool
is_data_value (tree.number n) = true
is_data_value (tree.address a) = true
is_data_value (tree.word w) = not (is_verdict_word w)
is_data_value (tree.string s) = true

-- verdict | value
unfoldable pub map_data : Grammar DataTree
map_data = made tree.to_verdict verdict ∣ made tree.to_value (passing is_data_value value)

-- pair = one ["comment" STRING] ":" (verdict | value)
unfoldable pub pair : Grammar PairTree
pair = made (λ x. record { key = x.0; comment = x.1.0; value = x.1.1 })
    (range ⨾ comment ⨾ punctuation Colon ▹ map_data)

-- x {"," x} [","]
abbrev pub CommaSeparated : {A : Type 0} → Grammar A → List A → List Terminal → List Terminal → Type 0
CommaSeparated p xs from to = (a : List Terminal) × Separated (punctuation Comma) p xs from a
    × ((a ≡ to) ⊎ (a ≡ punctuator Comma ∷ to))

-- A list up to its closing brace: the tokens before the brace, without newlines, spell the list.
pub record BracedList {A : Type 0} (p : Grammar A) (xs : List A) (from to : List Terminal) : Type 0 where
  pub inner : List Terminal
  pub after : List Terminal
  pub joined : from ≡ inner ++ to
  pub closed : to ≡ punctuator CloseBrace ∷ after
  pub listed : CommaSeparated p xs (without_newlines inner) []

abbrev pub up_to_brace : {A : Type 0} → Grammar A → Grammar (List A)
up_to_brace p =
    record {
      spells = BracedList p;
      read = up_to_brace_at p.read;
      first = line ∷ p.first;
      follow = [];
      empty = false;
    }

-- elems and pairs, up to the closing brace
unfoldable pub elements : Grammar (List ElementTree)
elements = up_to_brace element

unfoldable pub pairs : Grammar (List PairTree)
pairs = up_to_brace pair

abbrev pub SpellsElements : List ElementTree → List Terminal → List Terminal → Type 0
SpellsElements = elements.spells

abbrev pub SpellsPairs : List PairTree → List Terminal → List Terminal → Type 0
SpellsPairs = pairs.spells

-- "@" NAME | "{" x "}"
abbrev pub reference : {A B : Type 0} → (Text → B) → (A → B) → Grammar A → Grammar B
reference named listed p = made named (punctuation At ▹ a_word)
    ∣ made listed (punctuation OpenBrace ▹ p ◃ punctuation CloseBrace)

-- setref = "@" NAME | "{" elems "}"
unfoldable pub set_ref : Grammar SetRefTree
set_ref = reference tree.named_set tree.elements elements

-- mapref = "@" NAME | "{" pairs "}"
unfoldable pub map_ref : Grammar MapRefTree
map_ref = reference tree.named_map tree.pairs pairs
