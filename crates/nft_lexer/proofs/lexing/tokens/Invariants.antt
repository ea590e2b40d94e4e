use Rattle.std.proofs.Common.{length}
use Rattle.nft_lexer.proofs.Standing.{Lexed}
use Rattle.nft_lexer.proofs.lexing.tokens.Given as goal

abbrev pub invariant-loop-rest : goal.invariant-loop-rest
invariant-loop-rest l = Lexed l.text l.rest l.found.items

abbrev pub decreases-loop-rest : goal.decreases-loop-rest
decreases-loop-rest l = length l.rest
