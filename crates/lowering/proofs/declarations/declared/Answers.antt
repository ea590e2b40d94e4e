use Rattle.lowering.proofs.Names.{[], append-nil, append_assoc, arith, drop_all}
use Rattle.lowering.specs.steps.Tables.AllPairs.{none, more}
use Rattle.lowering.proofs.Pairwise.{all-declared}
use Rattle.lowering.proofs.Remaining.{next}
use Rattle.lowering.proofs.declarations.declared.Goals as goal

pub loop-map-preserved : goal.loop-map-preserved
loop-map-preserved c =
    let left = rw (next c.maps-map-items.result.now c.loop-map.map-index c.map-item.result c.loop-map-test.true c.map-item.is)
    at c.loop-map.invariant in (
      λ ys rest. rw (c.in_ok-push.ensures.items, append_assoc) (left.0 _ (more _ _ _ _ c.in_ok-declared_verdicts.ensures rest)),
      λ ys rest. rw (c.in_ok-push-2.ensures.items, append_assoc) (left.1 _ (more _ _ _ _ c.in_ok-declared_numbers.ensures rest)),
    )

pub returns : goal.returns
returns c =
    let maps = rw (drop_all c.loop-map.map-index c.maps-map-items.result.now (omega arith)) at c.loop-map.invariant in
    all-declared c.args.network.now c.args.names.now _ c.in_ok-sets.ensures (rw append-nil at (maps.0 [] none))
    (rw append-nil at (maps.1 [] none))
