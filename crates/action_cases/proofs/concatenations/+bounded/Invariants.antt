use Rattle.std.proofs.Common.{length}
use Rattle.action_cases.proofs.concatenations.+bounded.Given as goal

abbrev pub decreases-bounded : goal.decreases-bounded
decreases-bounded l = length l.selectors.now
