use Rattle.std.proofs.Common.{◌≡◌, ◌++◌, take}
use Rattle.std.specs.List.{flat_map}
use Rattle.nft_tree.specs.TreeViews.{tables_of}
use Rattle.reach_report.specs.ReachLines.{rule_text}
use Rattle.reach_report.proofs.reach_lines.put_rules.Given as goal

abbrev pub invariant-loop-rule : goal.invariant-loop-rule
invariant-loop-rule l =
    l.text.items ≡ l.initial.text.items ++ flat_map (rule_text (tables_of l.rules)) (take l.rule-index l.told)
