use Rattle.std.proofs.Common.{◌≡◌}
use Rattle.ruleset_diff.specs.Differences.{assumption}
use Rattle.ruleset_diff.proofs.Covering.{AreTo}
use Rattle.ruleset_diff.proofs.diffing.ruleset_diff.Given as goal

abbrev pub invariant-loop-stage : goal.invariant-loop-stage
invariant-loop-stage l = record {
  limit : l.diagrams.limit ≡ l.limit;
  are : AreTo l.old.network l.old.rules l.new.rules (assumption l.assumed) l.diagrams l.stage-index l.differences.items;
}
