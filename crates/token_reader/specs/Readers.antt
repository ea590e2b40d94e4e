-- What a parsing function answers at a position in the tokens.
use Rattle.std.specs.Prelude.{◌≡◌, ℕ, ◌<◌, ◌≤◌, List, length, Option, IfSome, IsSomeAnd, option_map, drop}
use Rattle.nft_lexer.specs.declared.token.Token.{Token}
use Rattle.nft_lexer.specs.Terminal.{Terminal}
use Rattle.nft_lexer.specs.TokenViews.{terminals}
use Rattle.token_reader.specs.Grammar.{Grammar}

-- The tokens from a position on.
abbrev pub remaining : List Token → ℕ → List Terminal
remaining tokens at = terminals (drop at tokens)

-- `end` is after `at`, and within the tokens.
abbrev pub IsAfter : List Token → ℕ → ℕ → Type 0
IsAfter tokens at end = (at < end) × (end ≤ length tokens)

-- The answer is what the parser gives for the remaining tokens, and the position after it.
abbrev pub IsRead : {X A : Type 0} → (X → A) → (List Terminal → Option (A × List Terminal)) → List Token → ℕ
    → Option (X × ℕ)
    → Type 0
IsRead view read tokens at o =
    (option_map (λ x. (view x.0, remaining tokens x.1)) o ≡ read (remaining tokens at))
    × IfSome o (λ x. IsAfter tokens at x.1)

-- No condition on the tokens that follow.
abbrev pub Anything : List Terminal → Type 0
Anything ts = Unit

-- The answer is the one part that is spelled here, if the tokens after it satisfy `Behind`; it is none if
-- none is spelled.
pub record Reads {X A : Type 0} (p : Grammar A) (Behind : List Terminal → Type 0) (view : X → A)
    (tokens : List Token)
    (at : ℕ) (o : Option (X × ℕ)) : Type 0 where
  -- Soundness: the answer is spelled here.
  pub found : IfSome o (λ x. p.spells (view x.0) (remaining tokens at) (remaining tokens x.1))
  -- Completeness: what is spelled here is the answer.
  pub only : (a : A) (to : List Terminal) → p.spells a (remaining tokens at) to → Behind to
      → IsSomeAnd o (λ x. (view x.0 ≡ a) × (remaining tokens x.1 ≡ to))
