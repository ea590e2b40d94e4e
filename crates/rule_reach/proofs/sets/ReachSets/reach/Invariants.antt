use Rattle.std.proofs.Common.{take}
use Rattle.rule_reach.specs.Reach.{run_chains}
use Rattle.rule_reach.specs.steps.Rules.{IsReach}
use Rattle.rule_reach.proofs.sets.ReachSets.reach.Given as goal

abbrev pub invariant-loop-base : goal.invariant-loop-base
invariant-loop-base l = IsReach l.checked.network l.checked.rules (take l.base-index (run_chains l.checked.rules)) l.reach
