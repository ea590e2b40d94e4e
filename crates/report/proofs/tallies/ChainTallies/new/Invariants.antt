-- the tallies so far
use Rattle.report.proofs.Imports.{All, map, rule_tree, take, ◌≡◌}
use Rattle.report.specs.steps.Tallying.{fresh_rule}
use Rattle.report.proofs.Fresh.{FitsStart}
use Rattle.report.proofs.tallies.ChainTallies.new.Given as goal

abbrev pub invariant-loop-rule : goal.invariant-loop-rule
invariant-loop-rule l = record {
  are : l.rules.items ≡ map fresh_rule (map rule_tree (take l.rule-index l.chain.rules.items));
  fit : All (All FitsStart) l.rules.items;
}
