use Rattle.std.proofs.Common.{◌≡◌, take}
use Rattle.stage_sets.proofs.Parts.{staying_in}
use Rattle.stage_sets.proofs.ends.staying.Given as goal

abbrev pub invariant-loop-case : goal.invariant-loop-case
invariant-loop-case l = l.parts.items ≡ staying_in (take l.case-index l.outcomes)
