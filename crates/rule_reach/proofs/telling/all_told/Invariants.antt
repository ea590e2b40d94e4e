use Rattle.std.proofs.Common.{take}
use Rattle.std.specs.List.{AllZip}
use Rattle.chain_sets.specs.RuleSets.{sets_of}
use Rattle.rule_reach.specs.steps.Telling.{IsTold}
use Rattle.rule_reach.proofs.telling.all_told.Given as goal

abbrev pub invariant-loop-reach : goal.invariant-loop-reach
invariant-loop-reach l = AllZip (IsTold l.diagrams l.table (sets_of l.visits)) (take l.reach-index l.rules) l.all.items
