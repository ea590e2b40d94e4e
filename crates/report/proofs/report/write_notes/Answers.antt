use Rattle.report.proofs.Imports.{arith}
use Rattle.report.proofs.Putting.{sent_all}
use Rattle.report.proofs.report.write_notes.Goals as goal

pub returns : goal.returns
returns g c = grind (arith, sent_all, c.put_notes.ensures, c.finish.ensures)
