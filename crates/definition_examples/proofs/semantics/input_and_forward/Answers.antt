use Rattle.std.proofs.Common.{refl}
use Rattle.rule_meaning.specs.declared.stage.HookStage.TheVariants as stages
use Rattle.definition_examples.proofs.ComputedHooks.{forwards, in_stage}
use Rattle.definition_examples.proofs.semantics.input_and_forward.Goals as goal

pub returns-clause-input : goal.returns-clause-input
returns-clause-input c = (in_stage stages.Input _ _ _ refl, forwards _ _ _ refl)

pub returns-clause-forward : goal.returns-clause-forward
returns-clause-forward c = (forwards _ _ _ refl, in_stage stages.Input _ _ _ refl)
