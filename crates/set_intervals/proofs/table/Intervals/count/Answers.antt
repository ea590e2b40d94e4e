use Rattle.std.proofs.Common.{arith}
use Rattle.set_intervals.proofs.RunLaws.{has_runs}
use Rattle.set_intervals.proofs.table.Intervals.count.Goals as goal

pub returns : goal.returns
returns g c = grind (arith, c.args.self.now, c.self.view_is, has_runs, c.self.invariant.0)
