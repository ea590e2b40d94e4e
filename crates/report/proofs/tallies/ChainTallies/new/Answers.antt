use Rattle.report.proofs.Imports.{All, All-push, ap, arith, map, rule_tree, ◌∙◌}
use Rattle.std.proofs.Common.{take_all}
use Rattle.report.specs.steps.Tallying.{fresh_rule}
use Rattle.report.proofs.Fresh.{FitsStart, mapped_more}
use Rattle.report.proofs.tallies.ChainTallies.new.Goals as goal

pub loop-rule-preserved : goal.loop-rule-preserved
loop-rule-preserved c = record {
  are = mapped_more fresh_rule rule_tree c.args.chain.now.rules.items c.loop-rule.rule-index c.rule-item.result (omega arith)
      (rw c.deref-rule-items.ensures.value at c.rule-item.is) c.loop-rule.invariant.are c.in_ok-push.ensures.items c.in_ok-new.ensures.starts;
  fit = rw c.in_ok-push.ensures.items (All-push (All FitsStart) _ _ c.loop-rule.invariant.fit c.in_ok-new.ensures.fits);
}

pub returns-clause-starts : goal.returns-clause-starts
returns-clause-starts c = c.loop-rule.invariant.are ∙ ap (λ xs. map fresh_rule (map rule_tree xs)) (take_all c.loop-rule.rule-index _ (omega arith))
