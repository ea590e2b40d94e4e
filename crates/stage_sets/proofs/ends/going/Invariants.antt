use Rattle.std.proofs.Common.{◌≡◌, take}
use Rattle.stage_sets.proofs.Parts.{going_in}
use Rattle.stage_sets.proofs.ends.going.Given as goal

abbrev pub invariant-loop-case : goal.invariant-loop-case
invariant-loop-case l = l.parts.items ≡ going_in (take l.case-index l.outcomes)
