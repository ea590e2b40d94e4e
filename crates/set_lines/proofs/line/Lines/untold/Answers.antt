use Rattle.set_lines.proofs.LineLaws.{passed_new}
use Rattle.set_lines.proofs.line.Lines.untold.Goals as goal

pub returns-clause-lines : goal.returns-clause-lines
returns-clause-lines c = passed_new c.new.result.items c.new.ensures.items
