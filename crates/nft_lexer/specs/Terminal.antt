-- Tokens as a grammar sees them, without where their bytes are in memory (own).
use Rattle.std.specs.Prelude.{ℕ, List, map}
use Rattle.nft_lexer.specs.declared.token.Punctuator.{Punctuator}

-- A terminal symbol of the grammar.
pub data Terminal : Type 0 where
  newline : Terminal
  punctuator : Punctuator → Terminal
  word : List ℕ → Terminal
  number : ℕ → Terminal
  address : ℕ → Terminal
  string : List ℕ → Terminal

-- A token: a terminal and its bytes.
pub record LexedToken : Type 0 where
  pub terminal : Terminal
  pub text : List ℕ

-- The same for tokens of the model.
abbrev pub terminals_of : List LexedToken → List Terminal
terminals_of tokens = map (λ t. t.terminal) tokens
