use Rattle.reach_report.proofs.Sets.{of_item}
use Rattle.reach_report.proofs.sets_below.SetTexts.of_rule.Goals as goal

pub put_rule-requires-clause-sets : goal.put_rule-requires-clause-sets
put_rule-requires-clause-sets c =
    of_item _ _ _ _ _ c.bases-base-items.ensures c.loop-base-test.true c.base-item.is c.requires
