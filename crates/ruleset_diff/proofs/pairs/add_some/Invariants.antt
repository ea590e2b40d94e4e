use Rattle.std.proofs.Common.{take}
use Rattle.ruleset_diff.specs.steps.Pairs.{AddsSome}
use Rattle.ruleset_diff.proofs.pairs.add_some.Given as goal

abbrev pub invariant-loop-set : goal.invariant-loop-set
invariant-loop-set l =
    AddsSome l.diagrams l.stage l.old l.new (take l.set-index l.sets) l.initial.differences.items l.differences.items
