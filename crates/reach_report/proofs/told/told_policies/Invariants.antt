use Rattle.std.proofs.Common.{◌≡◌, All, map, take}
use Rattle.reach_report.specs.Told.{AreBelow}
use Rattle.reach_report.proofs.told.told_policies.Given as goal

abbrev pub invariant-loop-policy : goal.invariant-loop-policy
invariant-loop-policy l =
    (map (λ t. t.reach) l.told.items ≡ take l.policy-index l.policies)
    × All (λ t. AreBelow l.texts.is_wanted t.below.items) l.told.items
