use Rattle.std.proofs.Common.{length}
use Rattle.set_intervals.proofs.overlay.+first_wins.Given as goal

abbrev pub decreases-first_wins : goal.decreases-first_wins
decreases-first_wins g l = length l.pairs.now
