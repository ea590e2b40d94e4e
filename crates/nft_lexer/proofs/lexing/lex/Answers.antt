use Rattle.std.proofs.Common.{map, arith}
use Rattle.std.proofs.lemmas.Bool.Decides.{nat_tests}
use Rattle.nft_lexer.specs.declared.fault.LexFault.TheVariants.{TooLong}
use Rattle.nft_lexer.specs.TokenViews.{spelled}
use Rattle.nft_lexer.proofs.Tokenizations.{Answered, answers}
use Rattle.nft_lexer.proofs.lexing.lex.Goals.{After-tokens}
use Rattle.nft_lexer.proofs.lexing.lex.Goals as goal

all : (c : After-tokens) → Answered (λ v. map spelled v.items) c.args.text.now c.tokens.result
all c = answers (λ v. map spelled v.items) c.args.text.now c.tokens.result c.tokens.ensures.found c.tokens.ensures.fault

pub returns-clause-only : goal.returns-clause-only
returns-clause-only c = (all (goal.at.returns-clause-only c).After-tokens).0

pub returns-clause-only_fault : goal.returns-clause-only_fault
returns-clause-only_fault c = (all (goal.at.returns-clause-only_fault c).After-tokens).1

pub returns-clause-long : goal.returns-clause-long
returns-clause-long c = (
  λ e. let f = c.tokens.ensures.fault TooLong e in grind (arith, f.rest, f.faulty),
  λ long. grind (arith, nat_tests, long, c.if-text-gt-MOST_BYTES.false),
)
