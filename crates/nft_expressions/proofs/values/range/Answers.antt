use Rattle.std.proofs.Common.{refl, rules}
use Rattle.nft_lexer.specs.declared.token.Punctuator.TheVariants.{Minus, Slash}
use Rattle.nft_tree.specs.TreeViews.{range_tree}
use Rattle.token_reader.specs.steps.Lawful.{no_punctuator, reads_from}
use Rattle.nft_expressions.specs.Elements.{EndsRange, range}
use Rattle.nft_expressions.specs.steps.Laws.{lawful_range}
use Rattle.nft_expressions.proofs.values.range.Goals as goal

pub returns-2-clause-reads : goal.returns-2-clause-reads
unfolding range
returns-2-clause-reads c = reads_from lawful_range EndsRange
    (λ ts e. rw (no_punctuator Minus ts e.0, no_punctuator Slash ts e.1.0) refl) range_tree c.args.tokens.now
    c.args.at _ (search rules)
