use Rattle.std.proofs.Common.{◌≡◌, ◌++◌, map, take}
use Rattle.rule_meaning.specs.Hooks.{policy_of}
use Rattle.chain_sets.specs.steps.Merging.{with_outcome}
use Rattle.stage_sets.specs.steps.Bases.{base_chain}
use Rattle.stage_sets.specs.steps.Outcomes.{outcome_at}
use Rattle.stage_sets.proofs.ends.add_ends.Given as goal

abbrev pub invariant-loop-end : goal.invariant-loop-end
invariant-loop-end l = l.outcomes.items
    ≡ l.initial.outcomes.items ++ map (with_outcome (outcome_at l.base.number (policy_of (base_chain l.base).head))) (take l.end-index l.ends)
