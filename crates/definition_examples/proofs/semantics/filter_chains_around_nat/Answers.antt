use Rattle.std.proofs.Common.{refl}
use Rattle.rule_meaning.specs.declared.stage.HookStage.TheVariants as stages
use Rattle.definition_examples.proofs.ComputedHooks.{in_stage}
use Rattle.definition_examples.proofs.semantics.filter_chains_around_nat.Goals as goal

pub returns-clause-prerouting_after : goal.returns-clause-prerouting_after
returns-clause-prerouting_after c = (in_stage stages.PreroutingBeforeNat _ _ _ refl, in_stage stages.PreroutingAfterNat _ _ _ refl)

pub returns-clause-prerouting_before : goal.returns-clause-prerouting_before
returns-clause-prerouting_before c = (in_stage stages.PreroutingBeforeNat _ _ _ refl, in_stage stages.PreroutingAfterNat _ _ _ refl)

pub returns-clause-postrouting_after : goal.returns-clause-postrouting_after
returns-clause-postrouting_after c = (in_stage stages.PostroutingBeforeNat _ _ _ refl, in_stage stages.PostroutingAfterNat _ _ _ refl)

pub returns-clause-postrouting_before : goal.returns-clause-postrouting_before
returns-clause-postrouting_before c = (in_stage stages.PostroutingBeforeNat _ _ _ refl, in_stage stages.PostroutingAfterNat _ _ _ refl)
