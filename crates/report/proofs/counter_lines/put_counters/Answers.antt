use Rattle.report.proofs.Imports.{table_tree}
use Rattle.report.proofs.Putting.{left_more}
use Rattle.report.proofs.Listing.{numbered_on}
use Rattle.report.proofs.counter_lines.put_counters.Goals as goal

pub loop-number-preserved : goal.loop-number-preserved
loop-number-preserved g c = left_more c.loop-number.invariant
    (numbered_on _ table_tree c.loop-number.number c.args.rules.now.tables.items c.loop-number.number c.table-item.result
    (rw (← c.deref-table-items.ensures.value) c.loop-number-test.true) (rw (← c.deref-table-items.ensures.value) c.table-item.is))
    c.put_table.ensures
