use Rattle.std.proofs.Common.{All, subst, sym}
use Rattle.packet_sets.specs.Sets.{IsSet}
use Rattle.reach_report.proofs.Sets.{ends_as, of_item}
use Rattle.reach_report.proofs.sets_below.SetTexts.of_policy.Goals as goal

pub put_sets-requires-clause-sets : goal.put_sets-requires-clause-sets
put_sets-requires-clause-sets c =
    let d = c.args.self.now.sets.now.diagrams in
    let base = of_item d _ _ _ _ c.bases-base-items.ensures c.loop-base-test.true c.base-item.is c.requires in
    let ends = ends_as d _ _ c.deref.ensures.value base.ends in
    subst (λ sets. All (IsSet d) sets) (sym c.deref-then-base-chain-2-2.ensures.value)
    (c.in_ok-ends.ensures d ends)
