use Rattle.std.proofs.Common.{arith}
use Rattle.conntrack.proofs.Lists.{is_some-find}
use Rattle.conntrack.proofs.list_tracker.is_taken.Goals as goal

pub returns : goal.returns
returns c = grind (arith, is_some-find)
