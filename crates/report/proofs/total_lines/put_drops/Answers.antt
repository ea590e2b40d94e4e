use Rattle.report.proofs.Imports.{drop_line, drops_in}
use Rattle.report.proofs.Putting.{left_on}
use Rattle.report.proofs.total_lines.put_drops.Goals as goal

pub loop-cause-preserved : goal.loop-cause-preserved
loop-cause-preserved g c = left_on (drop_line (drops_in c.args.dropped.now)) _ _ _ c.loop-cause-test.true c.loop-cause.invariant
    (rw c.report_index.ensures.report_index at c.put_drop.ensures)
