use Rattle.token_reader.specs.Readers.{Anything}
use Rattle.token_reader.specs.steps.Lawful.{reads_from}
use Rattle.std.proofs.Common.{refl}
use Rattle.nft_expressions.specs.Selectors.{selector}
use Rattle.nft_expressions.specs.steps.SelectorLaws.{lawful_selector}
use Rattle.nft_expressions.proofs.any_selector.anysel.Goals as goal

pub returns-clause-found : goal.returns-clause-found
unfolding selector
returns-clause-found c = (reads_from lawful_selector Anything (λ ts e. refl) (λ s. s) c.args.tokens.now
    c.args.at c.selector.result c.selector.ensures).found

pub returns-clause-only : goal.returns-clause-only
unfolding selector
returns-clause-only c = λ s to spelled.
    (reads_from lawful_selector Anything (λ ts e. refl) (λ s. s) c.args.tokens.now c.args.at c.selector.result
    c.selector.ensures).only s to spelled tt
