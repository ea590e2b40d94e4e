-- the causes that are left to put
use Rattle.report.proofs.Imports.{PutsAllBut, drop, drop_line, drops_in, flat_map}
use Rattle.report.proofs.total_lines.put_drops.Given as goal

abbrev pub invariant-loop-cause : goal.invariant-loop-cause
invariant-loop-cause g l = PutsAllBut g.W.Write.contents l.initial.page l.initial.writer l.page l.writer
    (flat_map (drop_line (drops_in l.dropped)) (drop l.cause-index l.causes)) (flat_map (drop_line (drops_in l.dropped)) l.causes)
