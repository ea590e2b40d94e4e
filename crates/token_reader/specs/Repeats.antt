-- Sequences of tokens. `P x from to` says that `from` is a spelling of x and then `to`.
use Rattle.std.specs.Prelude.{◌≡◌, ℕ, zero, suc, List, [], ◌∷◌, ◌⊎◌, Bool, true, false}
use Rattle.nft_lexer.specs.declared.token.Punctuator.TheVariants.{Semicolon, CloseBrace}
use Rattle.nft_lexer.specs.Terminal.{Terminal, newline, punctuator, word, number, address, string}

-- {x}
abbrev pub Many : {A : Type 0} → (A → List Terminal → List Terminal → Type 0) → List A → List Terminal
    → List Terminal → Type 0
Many P [] from to = from ≡ to
Many P (x ∷ xs) from to = (mid : List Terminal) × P x from mid × Many P xs mid to

-- end = NL | ";"
abbrev pub SpellsEnd : List Terminal → List Terminal → Type 0
SpellsEnd from to = (from ≡ newline ∷ to) ⊎ (from ≡ punctuator Semicolon ∷ to)

-- A number of ends.
abbrev pub EndsCounted : ℕ → List Terminal → List Terminal → Type 0
EndsCounted zero from to = from ≡ to
EndsCounted (suc n) from to = (mid : List Terminal) × SpellsEnd from mid × EndsCounted n mid to

-- {end}
abbrev pub Ends : List Terminal → List Terminal → Type 0
Ends from to = (n : ℕ) × EndsCounted n from to

-- end {end}
abbrev pub SomeEnds : List Terminal → List Terminal → Type 0
SomeEnds from to = (a : List Terminal) × SpellsEnd from a × Ends a to

-- The tokens without newlines.
abbrev pub without_newlines : List Terminal → List Terminal
without_newlines [] = []
without_newlines (newline ∷ ts) = without_newlines ts
without_newlines (punctuator m ∷ ts) = punctuator m ∷ without_newlines ts
without_newlines (word w ∷ ts) = word w ∷ without_newlines ts
without_newlines (number n ∷ ts) = number n ∷ without_newlines ts
without_newlines (address a ∷ ts) = address a ∷ without_newlines ts
without_newlines (string s ∷ ts) = string s ∷ without_newlines ts

-- Whether the first token is a newline, a semicolon or a closing brace: what ends a rule.
abbrev pub is_rule_end : List Terminal → Bool
is_rule_end (newline ∷ ts) = true
is_rule_end (punctuator Semicolon ∷ ts) = true
is_rule_end (punctuator CloseBrace ∷ ts) = true
is_rule_end ts = false

-- The first token is none of these.
abbrev pub NoneOf : List Terminal → List Terminal → Type 0
NoneOf [] ts = Unit
NoneOf (t ∷ others) ts = ((rest : List Terminal) → ts ≡ t ∷ rest → ⊥) × NoneOf others ts
