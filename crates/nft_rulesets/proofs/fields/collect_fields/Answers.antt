use Rattle.std.proofs.Common.{sym, refl}
use Rattle.nft_rulesets.proofs.fields.collect_fields.Goals as goal

pub loop-field-init : goal.loop-field-init
loop-field-init g c = refl

pub loop-field-preserved : goal.loop-field-preserved
loop-field-preserved g c = rw (sym (rw c.if-not-set_field.false at c.set_field.ensures))
    at (rw c.in-Some.ensures.steps.0 at c.loop-field.invariant)

pub returns-then-not-set_field : goal.returns-then-not-set_field
returns-then-not-set_field g c = rw (← c.into_iter-field-iterator.ensures.into_iter_gives.0)
    (rw (sym (rw c.if-not-set_field.true at c.set_field.ensures))
    at (rw c.in-Some.ensures.steps.0 at c.loop-field.invariant))
