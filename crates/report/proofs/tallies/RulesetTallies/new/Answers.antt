use Rattle.report.proofs.Imports.{All, All-push, ap, arith, fresh_table, map, table_tree, ◌∙◌}
use Rattle.std.proofs.Common.{take_all}
use Rattle.report.proofs.Fresh.{FitsStart, mapped_more}
use Rattle.report.proofs.tallies.RulesetTallies.new.Goals as goal

pub loop-table-preserved : goal.loop-table-preserved
loop-table-preserved c = record {
  are = mapped_more fresh_table table_tree c.args.rules.now.tables.items c.loop-table.table-index c.table-item.result (omega arith)
      (rw c.deref-table-items.ensures.value at c.table-item.is) c.loop-table.invariant.are c.in_ok-push.ensures.items c.in_ok-new.ensures.starts;
  fit = rw c.in_ok-push.ensures.items (All-push (All (All (All FitsStart))) _ _ c.loop-table.invariant.fit c.in_ok-new.ensures.fits);
}

pub returns-clause-starts : goal.returns-clause-starts
returns-clause-starts c = c.loop-table.invariant.are ∙ ap (λ xs. map fresh_table (map table_tree xs)) (take_all c.loop-table.table-index _ (omega arith))
