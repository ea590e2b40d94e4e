use Rattle.std.proofs.Common.{take}
use Rattle.packet_sets.specs.Sets.{Keeps}
use Rattle.ruleset_diff.specs.steps.Pairs.{AreCompared}
use Rattle.ruleset_diff.proofs.pairs.compare_all.Given as goal

abbrev pub invariant-loop-case : goal.invariant-loop-case
invariant-loop-case l = record {
  keeps : Keeps l.initial.diagrams l.diagrams;
  compared : AreCompared l.diagrams l.stage (take l.case-index l.old) l.new l.initial.differences.items l.differences.items;
}
