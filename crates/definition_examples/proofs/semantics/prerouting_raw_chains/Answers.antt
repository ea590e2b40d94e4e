use Rattle.std.proofs.Common.{refl}
use Rattle.rule_meaning.specs.declared.stage.HookStage.TheVariants as stages
use Rattle.definition_examples.proofs.ComputedHooks.{in_stage}
use Rattle.definition_examples.proofs.semantics.prerouting_raw_chains.Goals as goal

pub returns-clause-at : goal.returns-clause-at
returns-clause-at c = (in_stage stages.PreroutingRaw _ _ _ refl, in_stage stages.PreroutingBeforeNat _ _ _ refl, in_stage stages.PreroutingAfterNat _ _ _ refl)

pub returns-clause-above : goal.returns-clause-above
returns-clause-above c = (in_stage stages.PreroutingRaw _ _ _ refl, in_stage stages.PreroutingBeforeNat _ _ _ refl)
