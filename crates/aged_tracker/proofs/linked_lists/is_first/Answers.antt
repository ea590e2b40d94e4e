use Rattle.std.proofs.Common.{arith}
use Rattle.aged_tracker.proofs.linked_lists.is_first.Goals as goal

pub returns : goal.returns
returns c slots lists rings = grind arith
