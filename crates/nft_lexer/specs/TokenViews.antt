-- What contracts see of the code's tokens: their terminals and bytes, without where these are in memory (own).
use Rattle.std.specs.Prelude.{ℕ, ◌-◌, List, drop, length, map, take}
use Rattle.nft_lexer.specs.declared.token.TokenKind.{TokenKind}
use Rattle.nft_lexer.specs.declared.token.TokenKind.TheVariants as token_kinds
use Rattle.nft_lexer.specs.declared.token.Token.{Token}
use Rattle.nft_lexer.specs.Terminal.{LexedToken, Terminal, address, newline, number, punctuator, string, word}

abbrev pub terminal_of : TokenKind → List ℕ → Terminal
terminal_of token_kinds.NewLine text = newline
terminal_of (token_kinds.Punctuator m) text = punctuator m
terminal_of token_kinds.Word text = word text
terminal_of (token_kinds.Number n) text = number n
terminal_of (token_kinds.Address a) text = address a
-- The bytes between the quotes.
terminal_of token_kinds.String text = string (take (length text - 2) (drop 1 text))

abbrev pub spelled : Token → LexedToken
spelled t = record { terminal = terminal_of t.kind t.text.now; text = t.text.now }

-- The terminals of some tokens.
abbrev pub terminals : List Token → List Terminal
terminals tokens = map (λ t. terminal_of t.kind t.text.now) tokens
