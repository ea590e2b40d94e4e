use Rattle.std.proofs.Common.{refl}
use Rattle.nft_tree.specs.TreeViews.{verdict_tree}
use Rattle.token_reader.specs.Readers.{Anything}
use Rattle.token_reader.specs.steps.Lawful.{taking_reads}
use Rattle.nft_expressions.specs.Elements.{verdict}
use Rattle.nft_expressions.specs.steps.Laws.{lawful_verdict}
use Rattle.nft_expressions.proofs.verdicts.verdict.Goals as goal

pub returns-clause-reads : goal.returns-clause-reads
unfolding verdict
returns-clause-reads c = taking_reads lawful_verdict Anything (λ ts e. refl) verdict_tree c.args.tokens.now
    c.args.at c.read_verdict.result c.read_verdict.ensures
