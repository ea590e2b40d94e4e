use Rattle.std.proofs.Common.{arith}
use Rattle.std.proofs.lemmas.Grind.{common_steps}
use Rattle.ip_headers.proofs.Sums.{placed_is}
use Rattle.ip_headers.proofs.sum.add_bytes.Goals as goal

pub loop-byte-init : goal.loop-byte-init
loop-byte-init c = record { small = omega arith; same = grind (arith, placed_is c.args.bytes.now) }

pub loop-byte-preserved : goal.loop-byte-preserved
loop-byte-preserved c = grind (arith, common_steps)
