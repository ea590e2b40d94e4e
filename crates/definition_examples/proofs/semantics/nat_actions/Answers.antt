use Rattle.std.proofs.Common.{refl}
use Rattle.rule_meaning.specs.declared.stage.HookStage.TheVariants as stages
use Rattle.definition_examples.proofs.ComputedHooks.{in_stage}
use Rattle.definition_examples.proofs.semantics.nat_actions.Goals as goal

pub returns-clause-masquerade : goal.returns-clause-masquerade
returns-clause-masquerade c = in_stage stages.PostroutingNat _ _ _ refl

pub returns-clause-snat : goal.returns-clause-snat
returns-clause-snat c = in_stage stages.PostroutingNat _ _ _ refl

pub returns-clause-dnat : goal.returns-clause-dnat
returns-clause-dnat c = in_stage stages.PreroutingNat _ _ _ refl

pub returns-clause-redirect : goal.returns-clause-redirect
returns-clause-redirect c = in_stage stages.PreroutingNat _ _ _ refl

pub returns-clause-found : goal.returns-clause-found
returns-clause-found c = (in_stage stages.PreroutingNat _ _ _ refl, in_stage stages.PostroutingNat _ _ _ refl)

pub returns-clause-missing : goal.returns-clause-missing
returns-clause-missing c = in_stage stages.PreroutingNat _ _ _ refl
