use Rattle.rule_names.proofs.Names.{false, list_any, passes, take, ◌≡◌}
use Rattle.nft_tree.specs.TreeViews.{pair_tree}
use Rattle.rule_names.specs.Names.{data_target, one_or_none}
use Rattle.rule_names.proofs.targets.TargetTest.of_pairs.Given as goal

-- no target of the pairs so far passes
abbrev pub invariant-loop-pair : goal.invariant-loop-pair
invariant-loop-pair l = list_any (λ p. list_any (passes l.self l.names) (one_or_none (data_target (pair_tree p).value))) (take l.pair-index l.pairs) ≡ false
