use Rattle.packet_sets.specs.Sets.{Keeps}
use Rattle.ruleset_diff.specs.steps.Pairs.{IsTried}
use Rattle.ruleset_diff.proofs.pairs.try_hints.Given as goal

abbrev pub invariant-loop-index : goal.invariant-loop-index
invariant-loop-index l = record {
  keeps : Keeps l.initial.diagrams l.diagrams;
  tried : IsTried l.diagrams l.stage l.old l.new l.left l.initial.differences.items l.differences.items;
}
