use Rattle.std.proofs.Common.{◌≡◌, ◌++◌, map, drop}
use Rattle.rule_reach.specs.Reach.{rules_of, rules_of_tables}
use Rattle.rule_reach.specs.steps.Rules.{unreached}
use Rattle.rule_reach.proofs.rules.all_rules.Given as goal

abbrev pub invariant-loop-table : goal.invariant-loop-table
invariant-loop-table l =
    l.rules.items ++ map unreached (rules_of_tables l.table (drop l.table l.fn.names)) ≡ map unreached (rules_of l.fn.names)
