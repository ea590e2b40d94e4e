use Rattle.std.proofs.Common.{◌≡◌, ◌+◌, ◌++◌, map, drop}
use Rattle.nft_tree.specs.TreeViews.{chain_tree}
use Rattle.rule_reach.specs.Reach.{rules_of_chain}
use Rattle.rule_reach.specs.steps.Rules.{unreached}
use Rattle.rule_reach.proofs.rules.add_rules_of_chain.Given as goal

abbrev pub invariant-loop-place : goal.invariant-loop-place
invariant-loop-place l =
    l.rules.items ++ map unreached (rules_of_chain l.table l.chain_number (l.place + 1) (drop l.place (chain_tree l.chain).rules))
    ≡ l.initial.rules.items ++ map unreached (rules_of_chain l.table l.chain_number 1 (chain_tree l.chain).rules)
