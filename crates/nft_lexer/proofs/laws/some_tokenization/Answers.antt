use Rattle.nft_lexer.proofs.Tokenizations.{some_answer}
use Rattle.nft_lexer.proofs.laws.some_tokenization.Goals as goal

pub returns : goal.returns
returns c = some_answer
