use Rattle.report.proofs.Imports.{rule_tree, ◌+◌}
use Rattle.report.proofs.Putting.{left_more}
use Rattle.report.proofs.Listing.{numbered_on}
use Rattle.report.proofs.counter_lines.put_chain.Goals as goal

pub loop-before-preserved : goal.loop-before-preserved
loop-before-preserved g c = left_more c.loop-before.invariant
    (numbered_on _ rule_tree (c.loop-before.before + 1) c.args.found.chain.now.rules.items c.loop-before.before c.rule-item.result
    (rw (← c.deref-rule-items.ensures.value) c.loop-before-test.true) (rw (← c.deref-rule-items.ensures.value) c.rule-item.is))
    c.put_rule.ensures
