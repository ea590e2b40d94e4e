use Rattle.std.proofs.Common.{subst, sym, take}
use Rattle.std.proofs.lemmas.List.{take_all, take_more}
use Rattle.ruleset_diff.specs.steps.Pairs.{AddsSome}
use Rattle.ruleset_diff.proofs.Compared.{adds_none}
use Rattle.ruleset_diff.proofs.pairs.add_some.Goals as goal

pub loop-set-init : goal.loop-set-init
loop-set-init c = adds_none c.args.diagrams.now c.args.stage c.args.old c.args.new c.args.differences.now.items

pub loop-set-preserved : goal.loop-set-preserved
loop-set-preserved c =
    subst (λ l. AddsSome c.args.diagrams.now c.args.stage c.args.old c.args.new l c.args.differences.now.items c.add_one.new.differences.items)
    (sym (take_more c.args.sets.now c.loop-set.set-index _ c.loop-set-test.true))
    (c.in_ok-add_one.ensures (take c.loop-set.set-index c.args.sets.now) c.args.differences.now.items c.loop-set.invariant)

pub returns : goal.returns
returns c =
    subst (λ l. AddsSome c.args.diagrams.now c.args.stage c.args.old c.args.new l c.args.differences.now.items c.loop-set.differences.items)
    (take_all c.loop-set.set-index c.args.sets.now c.loop-set-test.false) c.loop-set.invariant
