use Rattle.std.proofs.Common.{◌+◌}
use Rattle.packet_sets.proofs.diagrams.Diagrams.+apply.Given as goal

abbrev pub decreases-apply : goal.decreases-apply
decreases-apply l = l.left + l.right
