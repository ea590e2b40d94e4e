use Rattle.rule_names.proofs.Names.{ap, list_any, sym, ◌∙◌}
use Rattle.std.proofs.lemmas.List.{take_all}
use Rattle.rule_names.specs.steps.NameFaults.{has_fault}
use Rattle.rule_names.proofs.Tests.{any-here, any-more, any-viewed}
use Rattle.rule_names.proofs.name_faults.any_has_fault.Goals as goal

pub loop-item-preserved : goal.loop-item-preserved
loop-item-preserved g c =
    any-more (λ (x : g.row.T.Denot). list_any (has_fault c.args.fault c.args.names.now) (g.T.HasNames.names_of c.args.fault (g.T.HasNames.tree x)))
    c.args.items.now c.loop-item.item-index c.item-item.result c.loop-item-test.true c.item-item.is c.loop-item.invariant c.if-has_fault.ensures

pub returns-then-has_fault : goal.returns-then-has_fault
returns-then-has_fault g c =
    any-here (λ (x : g.row.T.Denot). list_any (has_fault c.args.fault c.args.names.now) (g.T.HasNames.names_of c.args.fault (g.T.HasNames.tree x)))
    c.args.items.now c.loop-item.item-index c.item-item.result c.loop-item-test.true c.item-item.is c.if-has_fault.ensures
    ∙ any-viewed (has_fault c.args.fault c.args.names.now) (g.T.HasNames.names_of c.args.fault) g.T.HasNames.tree c.args.items.now

pub returns : goal.returns
returns g c =
    sym c.loop-item.invariant
    ∙ ap (list_any (λ (x : g.row.T.Denot). list_any (has_fault c.args.fault c.args.names.now) (g.T.HasNames.names_of c.args.fault (g.T.HasNames.tree x))))
    (take_all c.loop-item.item-index c.args.items.now c.loop-item-test.false)
    ∙ any-viewed (has_fault c.args.fault c.args.names.now) (g.T.HasNames.names_of c.args.fault) g.T.HasNames.tree c.args.items.now
