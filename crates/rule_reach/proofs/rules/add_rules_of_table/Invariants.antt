use Rattle.std.proofs.Common.{◌≡◌, ◌++◌, map, drop}
use Rattle.nft_tree.specs.TableItems.{chains_of}
use Rattle.rule_reach.specs.Reach.{rules_of_chains}
use Rattle.rule_reach.specs.steps.Rules.{unreached}
use Rattle.rule_reach.proofs.rules.add_rules_of_table.Given as goal

abbrev pub invariant-loop-place : goal.invariant-loop-place
invariant-loop-place l =
    l.rules.items ++ map unreached (rules_of_chains l.table l.place (drop l.place (chains_of l.names)))
    ≡ l.initial.rules.items ++ map unreached (rules_of_chains l.table 0 (chains_of l.names))
