use Rattle.rule_meaning.specs.declared.event.HookVerdict.{HookVerdict}
use Rattle.rule_meaning.specs.declared.event.HookVerdict.TheVariants.{Translated}
use Rattle.rule_meaning.specs.declared.event.NatAction.{NatAction}
use Rattle.std.proofs.Common.{◌⊎◌, inl, inr}
use Rattle.stepping.proofs.Names.{Accepted, Continue, PathState, refl, unless_dropped, ◌≡◌}
use Rattle.stepping.proofs.StepsTaken.{of_step}
use Rattle.stepping.proofs.setup.Setup.run.Goals as goal

continues : (v : HookVerdict) (s : PathState) → (v ≡ Accepted) ⊎ ((t : NatAction) × (v ≡ Translated t)) → Continue s ≡ unless_dropped v s
continues v s (inl is) = rw is refl
continues v s (inr of) = rw of.1 refl

pub returns-in-Dropped-clause-took : goal.returns-in-Dropped-clause-took
returns-in-Dropped-clause-took c = λ mappings.
    of_step (λ held. record { end = _; ran = c.run.ensures.end; is = rw c.in-Dropped.is refl }) refl refl (search)

pub returns-in-Accepted : goal.returns-in-Accepted
returns-in-Accepted c = record {
  took = λ mappings. of_step (λ held. record { end = _; ran = c.run.ensures.end; is = continues _ _ c.in-Accepted.is }) refl refl (search);
  spent = search;
}
