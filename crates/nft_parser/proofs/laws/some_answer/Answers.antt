use Rattle.nft_parser.proofs.TextLaws.{each_answer}
use Rattle.nft_parser.proofs.laws.some_answer.Goals as goal

pub returns : goal.returns
returns c = each_answer c.some_tokenization.ensures
