use Rattle.std.proofs.Common.{◌≡◌, map, take}
use Rattle.chain_sets.specs.steps.Outcomes.{turn_at}
use Rattle.chain_sets.specs.steps.Merging.{with_outcome}
use Rattle.chain_sets.proofs.outcomes.turns_of.Given as goal

abbrev pub invariant-loop-end : goal.invariant-loop-end
invariant-loop-end l = l.turns.items ≡ map (with_outcome turn_at) (take l.end-index l.ends)
