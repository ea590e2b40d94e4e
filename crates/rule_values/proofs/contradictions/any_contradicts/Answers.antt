use Rattle.std.proofs.Common.{sym, ◌∙◌}
use Rattle.rule_values.specs.Faults.{map_contradicts}
use Rattle.rule_values.proofs.Tests.{none_at_all, none_here, some_here}
use Rattle.rule_values.proofs.contradictions.any_contradicts.Goals as goal

pub loop-part-preserved : goal.loop-part-preserved
loop-part-preserved g c =
    none_here (map_contradicts c.args.network.now) g.T.HasMaps.maps_of g.T.HasMaps.tree _ _ c.loop-part.invariant c.part-item.result
    c.loop-part-test.true c.part-item.is (sym c.if-branch.false ∙ c.in_ok-contradicts.ensures)

pub returns-then-branch : goal.returns-then-branch
returns-then-branch g c = some_here _ _ _ _ _ c.part-item.result c.loop-part-test.true c.part-item.is (sym c.if-branch.true ∙ c.in_ok-contradicts.ensures)

pub returns : goal.returns
returns g c = none_at_all _ _ _ _ _ c.loop-part.invariant c.loop-part-test.false
