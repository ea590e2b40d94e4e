use Rattle.std.proofs.Common.{arith}
use Rattle.ip_headers.proofs.view.Decoded.read.Goals as goal

pub read-requires : goal.read-requires
read-requires c = grind arith
