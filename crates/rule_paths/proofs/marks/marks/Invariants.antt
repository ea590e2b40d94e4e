use Rattle.std.proofs.Common.{◌≡◌, Some, map, take}
use Rattle.nft_tree.specs.TreeViews.{chain_tree}
use Rattle.rule_paths.specs.Paths.{chain_has}
use Rattle.rule_paths.specs.steps.Index.{translates}
use Rattle.rule_paths.proofs.marks.marks.Given as goal

abbrev pub invariant-loop-chain : goal.invariant-loop-chain
invariant-loop-chain l = l.marks.items ≡ map (λ c. chain_has (translates l.kind) (Some c)) (map (λ c. chain_tree c.now) (take l.chain-index l.chains))
