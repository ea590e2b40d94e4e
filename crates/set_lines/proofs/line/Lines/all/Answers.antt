use Rattle.set_lines.proofs.LineLaws.{passed_one}
use Rattle.set_lines.proofs.line.Lines.all.Goals as goal

pub returns-clause-lines : goal.returns-clause-lines
returns-clause-lines c = passed_one c.in_ok-vec.field-0.items (record { fields = c.new.result }) c.in_ok-vec.ensures.items c.new.ensures.items
