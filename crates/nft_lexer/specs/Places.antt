-- Where tokens and faults stand in a text. (own; the tokens are those of Lexing)
use Rattle.std.specs.Prelude.{◌≡◌, ℕ, ◌≤◌, List, [], ◌∷◌, ◌++◌, drop, length, take}
use Rattle.nft_lexer.specs.declared.fault.LexFault.{LexFault}
use Rattle.nft_lexer.specs.declared.token.Token.{Token}
use Rattle.nft_lexer.specs.Lexing.{IsFaultAt, Lexeme, ScansInto, line_after}
use Rattle.nft_lexer.specs.Terminal.{LexedToken}
use Rattle.nft_lexer.specs.TokenViews.{spelled}

-- The token's bytes stand at its start, and the text before that has the tokens `before` and no more.
pub record StandsAt (text : List ℕ) (before : List LexedToken) (t : Token) : Type 0 where
  pub within : t.start ≤ length text
  pub lexemes : List Lexeme
  pub scan : ScansInto lexemes text (drop t.start text) before
  pub bytes : take (length t.text.now) (drop t.start text) ≡ t.text.now

-- Each of these tokens stands at its start, after the tokens `before` and those of the list before it.
abbrev pub AllStand : List ℕ → List LexedToken → List Token → Type 0
AllStand text before [] = Unit {0}
AllStand text before (t ∷ ts) = StandsAt text before t × AllStand text (before ++ spelled t ∷ []) ts

-- The text's first fault is at the byte behind the first `at` bytes, which have lexemes to their end.
pub record FaultStandsAt (text : List ℕ) (at : ℕ) (fault : LexFault) : Type 0 where
  pub within : at ≤ length text
  pub lexemes : List Lexeme
  pub tokens : List LexedToken
  pub scan : ScansInto lexemes text (drop at text) tokens
  pub faulty : IsFaultAt (drop at text) (line_after (take at text)) fault
