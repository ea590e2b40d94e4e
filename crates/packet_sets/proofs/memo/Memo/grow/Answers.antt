use Rattle.std.proofs.Common.{subst, sym}
use Rattle.std.proofs.lemmas.List.Elements.{All-get_or}
use Rattle.packet_sets.specs.steps.Operations.{AreRight, IsRight}
use Rattle.packet_sets.proofs.memo.Memo.grow.Goals as goal

pub loop-entry-preserved : goal.loop-entry-preserved
loop-entry-preserved c = λ nodes are right.
    let read = subst (λ xs. AreRight nodes xs) (sym c.deref-entry-items.ensures.value) right in
    c.keep.ensures nodes (c.loop-entry.invariant nodes are right)
    (All-get_or (λ x. IsRight nodes x) c.deref-entry-items.result.now c.loop-entry.entry-index _ c.loop-entry-test.true read)
