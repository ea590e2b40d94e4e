use Rattle.std.proofs.Common.{sym}
use Rattle.nft_lexer.proofs.Lexemes.{lexeme_within}
use Rattle.nft_lexer.proofs.lexing.next.Goals as goal

pub slice_bounds-token-count : goal.slice_bounds-token-count
slice_bounds-token-count c = rw (sym c.in-Some.ensures) at (lexeme_within c.args.rest.now)
