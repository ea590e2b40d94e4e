use Rattle.report.proofs.Imports.{All-push, ap, arith, fresh_statement, map, statement, ◌∙◌}
use Rattle.std.proofs.Common.{take_all}
use Rattle.report.specs.steps.Tallying.{started}
use Rattle.report.proofs.Fresh.{FitsStart, mapped_more}
use Rattle.report.proofs.tallies.RuleTallies.new.Goals as goal

pub loop-statement-preserved : goal.loop-statement-preserved
loop-statement-preserved c = record {
  are = mapped_more fresh_statement statement c.args.rule.now.statements.items c.loop-statement.statement-index c.statement-item.result (omega arith)
      (rw c.deref-statement-items.ensures.value at c.statement-item.is) c.loop-statement.invariant.are c.in_ok-push.ensures.items
      (c.starting.ensures.starts ∙ ap started c.counter.ensures);
  fit = rw c.in_ok-push.ensures.items (All-push FitsStart _ _ c.loop-statement.invariant.fit c.starting.ensures.fits);
}

pub returns-clause-starts : goal.returns-clause-starts
returns-clause-starts c = c.loop-statement.invariant.are
    ∙ ap (λ xs. map fresh_statement (map statement xs)) (take_all c.loop-statement.statement-index _ (omega arith))
