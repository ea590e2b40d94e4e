use Rattle.std.proofs.Common.{length}
use Rattle.action_cases.proofs.concatenations.+joined_width.Given as goal

abbrev pub decreases-joined_width : goal.decreases-joined_width
decreases-joined_width l = length l.selectors.now
