use Rattle.std.proofs.Common.{refl}
use Rattle.rule_meaning.specs.declared.stage.HookStage.TheVariants as stages
use Rattle.definition_examples.proofs.ComputedHooks.{in_stage}
use Rattle.definition_examples.proofs.semantics.chains_of_type_nat.Goals as goal

pub returns-clause-accepted : goal.returns-clause-accepted
returns-clause-accepted c = in_stage stages.PostroutingNat _ _ _ refl

pub returns-clause-dropped : goal.returns-clause-dropped
returns-clause-dropped c = in_stage stages.PostroutingNat _ _ _ refl

pub returns-clause-translated : goal.returns-clause-translated
returns-clause-translated c = in_stage stages.PostroutingNat _ _ _ refl

pub returns-clause-elsewhere : goal.returns-clause-elsewhere
returns-clause-elsewhere c = in_stage stages.PreroutingNat _ _ _ refl

pub returns-clause-filters_apart : goal.returns-clause-filters_apart
returns-clause-filters_apart c = (in_stage stages.PostroutingNat _ _ _ refl, in_stage stages.PostroutingBeforeNat _ _ _ refl, in_stage stages.PostroutingAfterNat _ _ _ refl)
