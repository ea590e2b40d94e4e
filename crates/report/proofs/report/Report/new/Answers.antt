use Rattle.report.proofs.Imports.{arith}
use Rattle.report.proofs.Fresh.{fresh_fits, fresh_starts, none_at}
use Rattle.report.proofs.report.Report.new.Goals as goal

pub invariant_of-result : goal.invariant_of-result
invariant_of-result c = grind (arith, none_at, fresh_fits, c.in_ok-tallies.ensures.fits)

pub returns-clause-fresh : goal.returns-clause-fresh
returns-clause-fresh c = grind (arith, none_at, c.in_ok-tallies.ensures.starts, fresh_starts, c.in_ok-notes.ensures.items)
