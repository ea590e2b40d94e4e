use Rattle.rule_values.specs.Faults.{map_contradicts}
use Rattle.rule_values.proofs.Tests.{NoneBefore}
use Rattle.rule_values.proofs.contradictions.any_contradicts.Given as goal

-- no map of the parts so far contradicts itself
abbrev pub invariant-loop-part : goal.invariant-loop-part
invariant-loop-part g l = NoneBefore (map_contradicts l.network) g.T.HasMaps.maps_of g.T.HasMaps.tree l.parts l.part-index
