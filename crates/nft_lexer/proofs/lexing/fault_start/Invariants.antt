use Rattle.std.proofs.Common.{List, length}
use Rattle.nft_lexer.specs.Terminal.{LexedToken}
use Rattle.nft_lexer.proofs.Tokenizations.{ScannedUpTo}
use Rattle.nft_lexer.proofs.lexing.fault_start.Given as goal

abbrev pub invariant-loop-rest : goal.invariant-loop-rest
invariant-loop-rest l = (tokens : List LexedToken) × ScannedUpTo l.text l.rest tokens

abbrev pub decreases-loop-rest : goal.decreases-loop-rest
decreases-loop-rest l = length l.rest
