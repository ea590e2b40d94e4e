use Rattle.std.proofs.Math.Pow.{pow-lt}
use Rattle.action_cases.proofs.concatenations.back.Goals as goal

pub pow-requires : goal.pow-requires
pow-requires c = pow-lt c.if-bits-lt128.true
