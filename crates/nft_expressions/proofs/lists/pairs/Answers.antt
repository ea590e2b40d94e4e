use Rattle.std.proofs.Common.{map, refl}
use Rattle.std.proofs.lemmas.Result.{IfOk-weaker}
use Rattle.nft_tree.specs.TreeViews.{pair_tree}
use Rattle.token_reader.specs.Readers.{Anything}
use Rattle.token_reader.specs.steps.Lawful.{taking_reads}
use Rattle.nft_expressions.specs.Elements.{pairs}
use Rattle.nft_expressions.specs.steps.Laws.{lawful_pairs}
use Rattle.nft_expressions.proofs.lists.pairs.Goals as goal

pub returns-clause-found : goal.returns-clause-found
unfolding pairs
returns-clause-found c = IfOk-weaker c.up_to_brace.result _ _ (λ o r. r.found)
    (taking_reads lawful_pairs Anything (λ ts e. refl) (λ found. map pair_tree found.items) c.args.tokens.now
    c.args.at c.up_to_brace.result c.up_to_brace.ensures)

pub returns-clause-only : goal.returns-clause-only
unfolding pairs
returns-clause-only c = λ xs to s.
    IfOk-weaker c.up_to_brace.result _ _ (λ o r. r.only xs to s tt)
    (taking_reads lawful_pairs Anything (λ ts e. refl) (λ found. map pair_tree found.items)
    c.args.tokens.now c.args.at c.up_to_brace.result c.up_to_brace.ensures)
