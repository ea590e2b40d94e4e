use Rattle.std.proofs.Common.{None, refl, rules}
use Rattle.nft_tree.specs.TreeViews.{map_ref_tree}
use Rattle.token_reader.specs.Readers.{Anything}
use Rattle.token_reader.specs.steps.Lawful.{reads_from}
use Rattle.nft_expressions.specs.Elements.{pairs, map_ref}
use Rattle.nft_expressions.specs.steps.Reading.{braced_at}
use Rattle.nft_expressions.specs.steps.Laws.{lawful_map_ref}
use Rattle.nft_expressions.proofs.references.map_ref.Goals as goal

pub returns-clause-reads : goal.returns-clause-reads
unfolding map_ref pairs braced_at
returns-clause-reads c = reads_from lawful_map_ref Anything (λ ts e. refl) map_ref_tree c.args.tokens.now
    c.args.at None (search rules)

pub returns-2-clause-reads : goal.returns-2-clause-reads
unfolding map_ref pairs braced_at
returns-2-clause-reads c = reads_from lawful_map_ref Anything (λ ts e. refl) map_ref_tree c.args.tokens.now
    c.args.at _ (search rules)
