use Rattle.std.proofs.Common.{take}
use Rattle.std.specs.List.{AllZip}
use Rattle.lowering.specs.Lowered.{HasDeclared}
use Rattle.rule_reach.proofs.unmet.all_declared.Given as goal

abbrev pub invariant-loop-names : goal.invariant-loop-names
invariant-loop-names l = AllZip (HasDeclared l.network) (take l.names-index l.tables) l.all.items
