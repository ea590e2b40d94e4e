-- Single tokens and runs of ends: the result of a reader is what is spelled.
use Rattle.std.proofs.Common.{true, ◌≡◌, ℕ, zero, suc, ◌≤◌, ◌==◌, Bool, false, List, [], ◌∷◌, length, Option, Some, None, inl, inr, refl, ap, ◌∙◌, arith}
use Rattle.std.proofs.lemmas.Slice.Eq.{bytes_eq-Decides}
use Rattle.std.specs.Prelude.{IfSome, map}
use Rattle.std.specs.Str.{bytes_eq}
use Rattle.list_laws.specs.Options.{IfSome_cond}
use denote.Enum.Bare.{same_true}
use Rattle.nft_lexer.specs.contracts.token.Punctuator.{the_type}
use Rattle.nft_lexer.specs.declared.token.Punctuator.{Punctuator}
use Rattle.nft_lexer.specs.declared.token.Punctuator.TheVariants.{Semicolon}
use Rattle.nft_lexer.specs.declared.token.Token.{Token}
use Rattle.nft_lexer.specs.Terminal.{Terminal, newline, punctuator, word, number, address, string, terminals_of}
use Rattle.nft_lexer.specs.TokenViews.{terminal_of, terminals, spelled}
use Rattle.token_reader.specs.Repeats.{SpellsEnd, EndsCounted, Ends, SomeEnds}
use Rattle.token_reader.specs.steps.Lookaheads.{punctuator_tag, begins_with}
use Rattle.token_reader.specs.steps.Parser.{end_lookaheads}
use Rattle.token_reader.specs.steps.Reading.{after_word, after_punctuator, after_end, after_ends, word_at, number_at, address_at, string_at, skip_ends}

pub same_punctuator : (m n : Punctuator) → (punctuator_tag m == punctuator_tag n) ≡ true → m ≡ n
same_punctuator m n e = same_true the_type tt m n e

pub word_after : (w : List ℕ) (ts : List Terminal) → IfSome (after_word w ts) (λ a. ts ≡ word w ∷ a)
word_after w (word v ∷ ts) = IfSome_cond _ (bytes_eq v w) ts
    (λ e. ap (λ (t : List ℕ). word t ∷ ts) ((bytes_eq-Decides v w).0 e))
word_after w ts = tt

pub punctuator_after : (m : Punctuator) (ts : List Terminal)
    → IfSome (after_punctuator m ts) (λ a. ts ≡ punctuator m ∷ a)
punctuator_after m (punctuator n ∷ ts) = IfSome_cond _ (punctuator_tag n == punctuator_tag m) ts
    (λ e. ap (λ (k : Punctuator). punctuator k ∷ ts) (same_punctuator n m e))
punctuator_after m ts = tt

pub word_found : (ts : List Terminal) → IfSome (word_at ts) (λ x. ts ≡ word x.0 ∷ x.1)
word_found (word w ∷ ts) = refl
word_found ts = tt

pub number_found : (ts : List Terminal) → IfSome (number_at ts) (λ x. ts ≡ number x.0 ∷ x.1)
number_found (number n ∷ ts) = refl
number_found ts = tt

pub address_found : (ts : List Terminal) → IfSome (address_at ts) (λ x. ts ≡ address x.0 ∷ x.1)
address_found (address n ∷ ts) = refl
address_found ts = tt

pub string_found : (ts : List Terminal) → IfSome (string_at ts) (λ x. ts ≡ string x.0 ∷ x.1)
string_found (string s ∷ ts) = refl
string_found ts = tt

-- The terminals of tokens, by way of the tokens of the model.
pub terminals_of-spelled : (tokens : List Token) → terminals_of (map spelled tokens) ≡ terminals tokens
terminals_of-spelled [] = refl
terminals_of-spelled (t ∷ ts) = ap (λ (others : List Terminal). terminal_of t.kind t.text.now ∷ others)
    (terminals_of-spelled ts)

-- ---- ends

-- The skipped ends are {end}.
pub ends_found : (ts : List Terminal) → Ends ts (skip_ends ts)
ends_found (newline ∷ ts) = let others = ends_found ts in (suc others.0, (ts, inl refl, others.1))
ends_found (punctuator Semicolon ∷ ts) = let others = ends_found ts in (suc others.0, (ts, inr refl, others.1))
ends_found ts = (0, refl)

pub some_ends_found : (ts : List Terminal) → IfSome (after_ends ts) (λ a. SomeEnds ts a)
some_ends_found (newline ∷ ts) = (ts, inl refl, ends_found ts)
some_ends_found (punctuator Semicolon ∷ ts) = (ts, inr refl, ends_found ts)
some_ends_found ts = tt

-- Where the first token is no end, none is skipped.
pub no_end : (ts : List Terminal) → begins_with end_lookaheads ts ≡ false
    → (skip_ends ts ≡ ts) × (after_end ts ≡ None)
no_end (newline ∷ ts) none = absurd cc
no_end (punctuator Semicolon ∷ ts) none = absurd cc
no_end ts none = (refl, refl)

pub end_only : (from to : List Terminal) → SpellsEnd from to
    → (after_end from ≡ Some to) × (skip_ends from ≡ skip_ends to) × (length from ≡ suc (length to))
    × (begins_with end_lookaheads from ≡ true)
end_only from to (inl e) = rw e (refl, refl, refl, refl)
end_only from to (inr e) = rw e (refl, refl, refl, refl)

pub ends_takes : (n : ℕ) (from to : List Terminal) → EndsCounted n from to → length to ≤ length from
ends_takes zero from to s = omega (arith, ap length s)
ends_takes (suc n) from to s = omega (arith, (end_only from s.0 s.1).2, ends_takes n s.0 to s.2)

-- {end} before a token that is no end is what is skipped.
pub ends_only : (n : ℕ) (from to : List Terminal) → EndsCounted n from to
    → begins_with end_lookaheads to ≡ false → skip_ends from ≡ to
ends_only zero from to s none = ap skip_ends s ∙ (no_end to none).0
ends_only (suc n) from to s none = (end_only from s.0 s.1).1 ∙ ends_only n s.0 to s.2 none
