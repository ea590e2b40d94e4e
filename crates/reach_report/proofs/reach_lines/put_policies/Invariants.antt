use Rattle.std.proofs.Common.{◌≡◌, ◌++◌, take}
use Rattle.std.specs.List.{flat_map}
use Rattle.nft_tree.specs.TreeViews.{tables_of}
use Rattle.reach_report.specs.ReachLines.{policy_text}
use Rattle.reach_report.proofs.reach_lines.put_policies.Given as goal

abbrev pub invariant-loop-policy : goal.invariant-loop-policy
invariant-loop-policy l =
    l.text.items ≡ l.initial.text.items ++ flat_map (policy_text (tables_of l.rules)) (take l.policy-index l.told)
