-- Readers of values, ranges and keys by the token after their first value, and of lists up to the closing
-- brace.
use Rattle.std.specs.Prelude.{List, [], ◌∷◌, length, ◌==◌, Option, Some, None, if◌then◌else◌}
use Rattle.nft_lexer.specs.declared.token.Punctuator.TheVariants.{OpenBrace, CloseBrace, Comma, Dot, Slash, Minus}
use Rattle.nft_lexer.specs.Terminal as terminals
use Rattle.nft_lexer.specs.Terminal.{Terminal}
use Rattle.nft_tree.specs.Tree as tree
use Rattle.nft_tree.specs.Tree.{ValueTree, RangeTree, KeyTree}
use Rattle.list_laws.specs.Options.{◌>>=◌}
use Rattle.token_reader.specs.steps.Reading.{option_else, all_at, with_front, after_at, punctuation_at, separated_at, after_punctuator, number_at}

-- NUM | ADDR | WORD | STRING
abbrev pub value_at : List Terminal → Option (ValueTree × List Terminal)
value_at (terminals.number n ∷ ts) = Some (tree.number n, ts)
value_at (terminals.address a ∷ ts) = Some (tree.address a, ts)
value_at (terminals.word w ∷ ts) = Some (tree.word w, ts)
value_at (terminals.string s ∷ ts) = Some (tree.string s, ts)
value_at ts = None

-- ["/" NUM] after a value, if that is an address
unfoldable pub one_or_prefix : ValueTree → List Terminal → RangeTree × List Terminal
one_or_prefix (tree.address a) ts = option_else (after_at (punctuation_at Slash) number_at ts)
    (λ n. (tree.prefix a n.0, n.1)) (tree.one (tree.address a), ts)
one_or_prefix v ts = (tree.one v, ts)

-- A range, after its first value.
unfoldable pub range_after : ValueTree → List Terminal → RangeTree × List Terminal
range_after v ts = option_else (after_at (punctuation_at Minus) value_at ts)
    (λ high. (tree.between v high.0, high.1)) (one_or_prefix v ts)

abbrev pub range_at : List Terminal → Option (RangeTree × List Terminal)
range_at ts = value_at ts >>= λ v. Some (range_after v.0 v.1)

abbrev pub next_value_at : List Terminal → Option (ValueTree × List Terminal)
next_value_at = after_at (punctuation_at Dot) value_at

-- A concatenation, after its first two values.
unfoldable pub joined_after : ValueTree → ValueTree → List Terminal → KeyTree × List Terminal
joined_after v w ts = let others = with_front (v ∷ w ∷ []) (all_at next_value_at ts) in
    (tree.joined others.0, others.1)

-- A key, after its first value.
unfoldable pub key_after : ValueTree → List Terminal → KeyTree × List Terminal
key_after v ts = option_else (next_value_at ts) (λ w. joined_after v w.0 w.1)
    (tree.single (range_after v ts).0, (range_after v ts).1)

abbrev pub key_at : List Terminal → Option (KeyTree × List Terminal)
key_at ts = value_at ts >>= λ v. Some (key_after v.0 v.1)

-- A token that is no closing brace.
abbrev pub inside_at : List Terminal → Option (Terminal × List Terminal)
inside_at [] = None
inside_at (terminals.punctuator CloseBrace ∷ ts) = None
inside_at (t ∷ ts) = Some (t, ts)

-- The tokens after one that is no newline and no closing brace.
abbrev pub after_plain : List Terminal → Option (List Terminal)
after_plain [] = None
after_plain (terminals.newline ∷ ts) = None
after_plain (terminals.punctuator CloseBrace ∷ ts) = None
after_plain (t ∷ ts) = Some ts

-- The tokens before the first closing brace, without newlines, and those from the brace on.
unfoldable pub enclosed_at : List Terminal → Option (List Terminal × List Terminal)
enclosed_at [] = None
enclosed_at (terminals.newline ∷ ts) = enclosed_at ts
enclosed_at (terminals.punctuator CloseBrace ∷ ts) = Some ([], terminals.punctuator CloseBrace ∷ ts)
enclosed_at (t ∷ ts) = enclosed_at ts >>= λ x. Some (t ∷ x.0, x.1)

-- The tokens kept, if a closing brace is next.
abbrev pub at_brace : List Terminal → List Terminal → Option (List Terminal × List Terminal)
at_brace kept here = after_punctuator CloseBrace here >>= λ a. Some (kept, here)

abbrev pub after_last_comma : List Terminal → List Terminal
after_last_comma ts = option_else (after_punctuator Comma ts) (λ a. a) ts

-- x {"," x} [","], all of the tokens
unfoldable pub comma_separated_at : {A : Type 0} → (List Terminal → Option (A × List Terminal))
    → List Terminal → Option (List A)
comma_separated_at read ts = separated_at (punctuation_at Comma) read ts
    >>= λ xs. if length (after_last_comma xs.1) == 0 then Some xs.0 else None

-- the same up to the brace that closes it
unfoldable pub up_to_brace_at : {A : Type 0} → (List Terminal → Option (A × List Terminal)) → List Terminal
    → Option (List A × List Terminal)
up_to_brace_at read ts = enclosed_at ts >>= λ inner. comma_separated_at read inner.0
    >>= λ xs. Some (xs, inner.1)

-- "{" x {"," x} [","] "}"
unfoldable pub braced_at : {A : Type 0} → (List Terminal → Option (A × List Terminal)) → List Terminal
    → Option (List A × List Terminal)
braced_at read ts = after_at (punctuation_at OpenBrace) (up_to_brace_at read) ts
    >>= λ xs. punctuation_at CloseBrace xs.1 >>= λ e. Some (xs.0, e.1)
