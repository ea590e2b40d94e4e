use Rattle.std.proofs.Common.{◌≡◌, ℕ, ◌<◌, map, get_or, true, false}
use Rattle.nft_tree.specs.Tree.{ChainTree}
use Rattle.nft_tree.specs.TreeViews.{chain_tree}
use Rattle.rule_paths.specs.steps.Index.{may_not_translate}
use Rattle.rule_paths.proofs.misplaced.reaches_misplaced.Given as goal

abbrev pub invariant-loop-index : goal.invariant-loop-index
invariant-loop-index l = (k : ℕ) → k < l.index → (c : ChainTree) → get_or (map (λ c. chain_tree c.now) l.chains) k c ≡ c
    → may_not_translate l.kind c.head ≡ true → get_or l.reaching k false ≡ true → ⊥
