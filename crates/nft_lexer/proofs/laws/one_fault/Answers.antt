use Rattle.nft_lexer.proofs.Tokenizations.{one_fault}
use Rattle.nft_lexer.proofs.laws.one_fault.Goals as goal

pub returns : goal.returns
returns c = one_fault
