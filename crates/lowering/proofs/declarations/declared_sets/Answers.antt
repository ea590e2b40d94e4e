use Rattle.lowering.proofs.Names.{[], append-nil, append_assoc, arith, drop_all, or_parts}
use Rattle.lowering.specs.steps.Tables.AllPairs.{none, more}
use Rattle.lowering.proofs.Pairwise.{sets-fit}
use Rattle.lowering.proofs.Remaining.{next}
use Rattle.lowering.proofs.declarations.declared_sets.Goals as goal

pub loop-set-init : goal.loop-set-init
loop-set-init c = (
  rw c.sets-set-items.ensures.all (sets-fit c.args.names.now c.args.names.now.items c.requires.types),
  λ ys rest. rw (c.new-tables.ensures.items, ← c.sets-set-items.ensures.all) rest,
)

pub declared_set-requires : goal.declared_set-requires
declared_set-requires c = (or_parts _ _ (or_parts _ _ (rw (next c.sets-set-items.result.now c.loop-set.set-index c.set-item.result
    c.loop-set-test.true c.set-item.is) at c.loop-set.invariant.0)).0).0

pub loop-set-preserved : goal.loop-set-preserved
loop-set-preserved c =
    let left = rw (next c.sets-set-items.result.now c.loop-set.set-index c.set-item.result c.loop-set-test.true c.set-item.is)
    at c.loop-set.invariant in (
      (or_parts _ _ left.0).1,
      λ ys rest. rw (c.in_ok-push.ensures.items, append_assoc) (left.1 _ (more _ _ _ _ c.in_ok-declared_set.ensures rest)),
    )

pub returns : goal.returns
returns c =
    let all = rw (drop_all c.loop-set.set-index c.sets-set-items.result.now (omega arith)) at c.loop-set.invariant in
    rw append-nil at (all.1 [] none)
