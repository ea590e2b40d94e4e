-- Deterministic parsers, each with the FIRST and FOLLOW sets of its production.
use Rattle.std.specs.Prelude.{ℕ, List, [], ◌∷◌, ◌++◌, Bool, true, false, Option, Some, None, cond}
use Rattle.nft_lexer.specs.declared.token.Punctuator.{Punctuator}
use Rattle.nft_lexer.specs.declared.token.Punctuator.TheVariants.{Semicolon}
use Rattle.nft_lexer.specs.Terminal.{Terminal}
use Rattle.token_reader.specs.steps.Reading.{after_word, skip_ends}
use Rattle.token_reader.specs.steps.Lookaheads.{Lookahead, line, this_punctuator, this_word}
use Rattle.list_laws.specs.Options.{◌>>=◌}
use Rattle.token_reader.specs.steps.Reading.{option_else, all_at, after_at, punctuation_at, some_ends_at, separated_at, lines_at}

pub record Parser (A : Type 0) : Type 0 where
  pub read : List Terminal → Option (A × List Terminal)
  pub first : List Lookahead
  pub follow : List Lookahead
  pub empty : Bool

-- A single token.
abbrev pub token : {A : Type 0} → (List Terminal → Option (A × List Terminal)) → Lookahead → Parser A
token read front = record { read = read; first = front ∷ []; follow = []; empty = false }

abbrev pub keyword : List ℕ → Parser Unit
keyword w = token (λ ts. after_word w ts >>= λ a. Some (tt, a)) (this_word w)

abbrev pub punctuation : Punctuator → Parser Unit
punctuation m = token (punctuation_at m) (this_punctuator m)

abbrev pub end_lookaheads : List Lookahead
end_lookaheads = line ∷ this_punctuator Semicolon ∷ []

abbrev pub ends : Parser Unit
ends = record {
  read = λ ts. Some (tt, skip_ends ts);
  first = end_lookaheads;
  follow = end_lookaheads;
  empty = true;
}

abbrev pub some_ends : Parser Unit
some_ends = record { read = some_ends_at; first = end_lookaheads; follow = end_lookaheads; empty = false }

abbrev pub when : Bool → List Lookahead → List Lookahead
when b fs = cond b fs []

-- A sequence.
abbrev joined : {A B C : Type 0} → Parser A → Parser B → (List Terminal → Option (C × List Terminal))
    → Parser C
joined p q read = record {
  read = read;
  first = p.first ++ when p.empty q.first;
  follow = q.follow ++ when q.empty p.follow;
  empty = cond p.empty q.empty false;
}

abbrev pub then_both : {A B : Type 0} → Parser A → Parser B → Parser (A × B)
then_both p q = joined p q (λ ts. p.read ts >>= λ x. q.read x.1 >>= λ y. Some ((x.0, y.0), y.1))

abbrev pub then_second : {B : Type 0} → Parser Unit → Parser B → Parser B
then_second p q = joined p q (after_at p.read q.read)

abbrev pub then_first : {A : Type 0} → Parser A → Parser Unit → Parser A
then_first p q = joined p q (λ ts. p.read ts >>= λ x. q.read x.1 >>= λ y. Some (x.0, y.1))

abbrev pub either : {A : Type 0} → Parser A → Parser A → Parser A
either p q = record {
  read = λ ts. option_else (p.read ts) (λ x. Some x) (q.read ts);
  first = p.first ++ q.first;
  follow = p.follow ++ (q.follow ++ when q.empty p.first);
  empty = q.empty;
}

abbrev pub maybe : {A : Type 0} → Parser A → Parser (Option A)
maybe p = record {
  read = λ ts. option_else (p.read ts) (λ x. Some (Some x.0, x.1)) (Some (None, ts));
  first = p.first;
  follow = p.follow ++ p.first;
  empty = true;
}

abbrev pub many : {A : Type 0} → Parser A → Parser (List A)
many p = record {
  read = λ ts. Some (all_at p.read ts);
  first = p.first;
  follow = p.follow ++ p.first;
  empty = true;
}

-- The result mapped.
abbrev remade : {A B : Type 0} → Parser A → (A × List Terminal → Option (B × List Terminal)) → Parser B
remade p f = record { read = λ ts. p.read ts >>= f; first = p.first; follow = p.follow; empty = p.empty }

abbrev pub made : {A B : Type 0} → (A → B) → Parser A → Parser B
made f p = remade p (λ x. Some (f x.0, x.1))

abbrev pub named : {A B : Type 0} → (A → Option B) → Parser A → Parser B
named f p = remade p (λ x. f x.0 >>= λ y. Some (y, x.1))

abbrev pub passing : {A : Type 0} → (A → Bool) → Parser A → Parser A
passing test p = remade p (λ x. cond (test x.0) (Some x) None)

abbrev pub nothing : {A : Type 0} → Parser A
nothing = record { read = λ ts. None; first = []; follow = []; empty = false }

abbrev pub separated : {A : Type 0} → Parser Unit → Parser A → Parser (List A)
separated s p = record {
  read = separated_at s.read p.read;
  first = p.first;
  follow = s.first ++ p.follow;
  empty = false;
}

abbrev pub lines : {A : Type 0} → Parser A → Parser (List A)
lines p = record {
  read = lines_at p.read;
  first = p.first;
  follow = end_lookaheads ++ (p.first ++ p.follow);
  empty = false;
}
