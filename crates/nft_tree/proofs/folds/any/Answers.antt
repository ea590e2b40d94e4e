use Rattle.std.proofs.Common.{of_calls, ◌∙◌}
use Rattle.std.proofs.lemmas.Iterator.{YieldsList-from_slice}
use Rattle.std.proofs.lemmas.Iterator.Search.{any_from_yields_List}
use Rattle.list_laws.specs.Lists.{any_of_map}
use Rattle.nft_tree.proofs.folds.any.Goals as goal

pub returns : goal.returns
returns g c = λ passes k.
    any_from_yields_List (λ x. passes (g.T.TreeNode.tree x)) _ _ c.any.result c.any.ensures.ran
    (YieldsList-from_slice c.args.items.now cc) (λ x b q h. (search of_calls, k x b (search of_calls)))
    ∙ any_of_map passes g.T.TreeNode.tree c.args.items.now
