use Rattle.nft_lexer.proofs.Tokenizations.{one, faultless}
use Rattle.nft_lexer.proofs.laws.one_tokenization.Goals as goal

pub returns-clause-one : goal.returns-clause-one
returns-clause-one c = one

pub returns-clause-faultless : goal.returns-clause-faultless
returns-clause-faultless c = faultless
