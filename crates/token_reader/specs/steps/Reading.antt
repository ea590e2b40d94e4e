-- Readers: each gives the part at the start of the tokens, and the rest of the tokens.
use Rattle.std.specs.Prelude.{ℕ, zero, suc, List, [], ◌∷◌, ◌++◌, length, ◌==◌, Option, Some, None, option_map, if◌then◌else◌}
use Rattle.std.specs.Borrow.{Bor}
use Rattle.std.specs.Str.{bytes_eq}
use Rattle.list_laws.specs.Options.{◌>>=◌}
use Rattle.nft_lexer.specs.declared.token.Punctuator.{Punctuator}
use Rattle.nft_lexer.specs.declared.token.Punctuator.TheVariants as punctuators
use Rattle.nft_lexer.specs.Terminal.{Terminal, newline, punctuator, word, number, address, string}
use Rattle.token_reader.specs.steps.Lookaheads.{punctuator_tag}

-- ---- single tokens

-- The tokens after this word, if it comes first.
abbrev pub after_word : List ℕ → List Terminal → Option (List Terminal)
after_word w (word v ∷ ts) = if bytes_eq v w then Some ts else None
after_word w ts = None

-- The tokens after this punctuator, if it comes first.
abbrev pub after_punctuator : Punctuator → List Terminal → Option (List Terminal)
after_punctuator m (punctuator n ∷ ts) = if punctuator_tag n == punctuator_tag m then Some ts else None
after_punctuator m ts = None

-- The leading word (number, address, string), and the tokens after it.
abbrev pub word_at : List Terminal → Option (List ℕ × List Terminal)
word_at (word w ∷ ts) = Some (w, ts)
word_at ts = None

abbrev pub number_at : List Terminal → Option (ℕ × List Terminal)
number_at (number n ∷ ts) = Some (n, ts)
number_at ts = None

abbrev pub address_at : List Terminal → Option (ℕ × List Terminal)
address_at (address a ∷ ts) = Some (a, ts)
address_at ts = None

abbrev pub string_at : List Terminal → Option (List ℕ × List Terminal)
string_at (string s ∷ ts) = Some (s, ts)
string_at ts = None

-- ---- ends

-- NL | ";"
abbrev pub after_end : List Terminal → Option (List Terminal)
after_end (newline ∷ ts) = Some ts
after_end (punctuator punctuators.Semicolon ∷ ts) = Some ts
after_end ts = None

-- {end}, as many as there are
abbrev pub skip_ends : List Terminal → List Terminal
skip_ends (newline ∷ ts) = skip_ends ts
skip_ends (punctuator punctuators.Semicolon ∷ ts) = skip_ends ts
skip_ends ts = ts

-- end {end}
abbrev pub after_ends : List Terminal → Option (List Terminal)
after_ends ts = option_map skip_ends (after_end ts)

-- ---- repetitions

-- The function of what the option holds, or else the default.
abbrev pub option_else : {A B : Type 0} → Option A → (A → B) → B → B
option_else None f e = e
option_else (Some x) f e = f x

-- {x}, at most n of them
unfoldable pub many_at : {A : Type 0} → (List Terminal → Option (A × List Terminal)) → ℕ → List Terminal
    → List A × List Terminal
many_at read zero ts = ([], ts)
many_at read (suc n) ts = option_else (read ts)
    (λ x. let others = many_at read n x.1 in (x.0 ∷ others.0, others.1)) ([], ts)

-- {x}: each has a token, so there are no more of them than tokens.
abbrev pub all_at : {A : Type 0} → (List Terminal → Option (A × List Terminal)) → List Terminal
    → List A × List Terminal
all_at read ts = many_at read (length ts) ts

-- The parts read before, and the result for the rest.
abbrev pub with_front : {A : Type 0} → List A → List A × List Terminal → List A × List Terminal
with_front front x = (front ++ x.0, x.1)

-- ---- sequences and lists

-- A sequence.
abbrev pub after_at : {A B : Type 0} → (List Terminal → Option (A × List Terminal))
    → (List Terminal → Option (B × List Terminal)) → List Terminal → Option (B × List Terminal)
after_at first second ts = first ts >>= λ x. second x.1

-- A punctuator, or end {end}, which have no value.
abbrev pub punctuation_at : Punctuator → List Terminal → Option (Unit × List Terminal)
punctuation_at m ts = after_punctuator m ts >>= λ a. Some (tt, a)

abbrev pub some_ends_at : List Terminal → Option (Unit × List Terminal)
some_ends_at ts = after_ends ts >>= λ a. Some (tt, a)

-- x {s x}
abbrev pub separated_at : {A : Type 0} → (List Terminal → Option (Unit × List Terminal))
    → (List Terminal → Option (A × List Terminal)) → List Terminal → Option (List A × List Terminal)
separated_at separator read ts = read ts
    >>= λ x. Some (with_front (x.0 ∷ []) (all_at (after_at separator read) x.1))

-- x {end {end} x} {end}
abbrev pub lines_at : {A : Type 0} → (List Terminal → Option (A × List Terminal)) → List Terminal
    → Option (List A × List Terminal)
lines_at read ts = separated_at some_ends_at read ts >>= λ xs. Some (xs.0, skip_ends xs.1)

-- A row of a static table, without the reference to its word.
abbrev pub row_of : {A : Type 0} → Bor (List ℕ) × A → List ℕ × A
row_of row = (row.0.now, row.1)
