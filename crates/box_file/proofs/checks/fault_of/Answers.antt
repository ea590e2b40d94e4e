use Rattle.std.proofs.Common.{arith}
use Rattle.box_file.proofs.checks.fault_of.Goals as goal

pub returns : goal.returns
returns c = grind arith
