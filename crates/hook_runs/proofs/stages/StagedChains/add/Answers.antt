use Rattle.std.proofs.Common.{Some, ap, sym, ◌∙◌}
use Rattle.rule_meaning.specs.declared.stage.HookStage.TheVariants as stages
use Rattle.hook_runs.proofs.Sorted.{added, none_added}
use Rattle.hook_runs.proofs.stages.StagedChains.add.Goals as goal

pub returns-in_default : goal.returns-in_default
returns-in_default c = none_added c.args.self.now c.args.start c.args.hook (sym c.stage_of.ensures ∙ c.in_default.is)

pub returns-in_ok-push-in-PreroutingRaw : goal.returns-in_ok-push-in-PreroutingRaw
returns-in_ok-push-in-PreroutingRaw c = added c.args.self.now c.push.new.self c.args.start c.args.hook stages.PreroutingRaw
    (sym c.stage_of.ensures ∙ c.in-Some.is ∙ ap Some c.in-PreroutingRaw.is) c.in_ok-push-in-PreroutingRaw.ensures.items

pub returns-in_ok-push-in-PreroutingBeforeNat : goal.returns-in_ok-push-in-PreroutingBeforeNat
returns-in_ok-push-in-PreroutingBeforeNat c = added c.args.self.now c.push-in-PreroutingBeforeNat.new.self c.args.start c.args.hook stages.PreroutingBeforeNat
    (sym c.stage_of.ensures ∙ c.in-Some.is ∙ ap Some c.in-PreroutingBeforeNat.is) c.in_ok-push-in-PreroutingBeforeNat.ensures.items

pub returns-in_ok-push-in-PreroutingNat : goal.returns-in_ok-push-in-PreroutingNat
returns-in_ok-push-in-PreroutingNat c = added c.args.self.now c.push-in-PreroutingNat.new.self c.args.start c.args.hook stages.PreroutingNat
    (sym c.stage_of.ensures ∙ c.in-Some.is ∙ ap Some c.in-PreroutingNat.is) c.in_ok-push-in-PreroutingNat.ensures.items

pub returns-in_ok-push-in-PreroutingAfterNat : goal.returns-in_ok-push-in-PreroutingAfterNat
returns-in_ok-push-in-PreroutingAfterNat c = added c.args.self.now c.push-in-PreroutingAfterNat.new.self c.args.start c.args.hook stages.PreroutingAfterNat
    (sym c.stage_of.ensures ∙ c.in-Some.is ∙ ap Some c.in-PreroutingAfterNat.is) c.in_ok-push-in-PreroutingAfterNat.ensures.items

pub returns-in_ok-push-in-Input : goal.returns-in_ok-push-in-Input
returns-in_ok-push-in-Input c = added c.args.self.now c.push-in-Input.new.self c.args.start c.args.hook stages.Input
    (sym c.stage_of.ensures ∙ c.in-Some.is ∙ ap Some c.in-Input.is) c.in_ok-push-in-Input.ensures.items

pub returns-in_ok-push-in-Forward : goal.returns-in_ok-push-in-Forward
returns-in_ok-push-in-Forward c = added c.args.self.now c.push-in-Forward.new.self c.args.start c.args.hook stages.Forward
    (sym c.stage_of.ensures ∙ c.in-Some.is ∙ ap Some c.in-Forward.is) c.in_ok-push-in-Forward.ensures.items

pub returns-in_ok-push-in-PostroutingBeforeNat : goal.returns-in_ok-push-in-PostroutingBeforeNat
returns-in_ok-push-in-PostroutingBeforeNat c = added c.args.self.now c.push-in-PostroutingBeforeNat.new.self c.args.start c.args.hook stages.PostroutingBeforeNat
    (sym c.stage_of.ensures ∙ c.in-Some.is ∙ ap Some c.in-PostroutingBeforeNat.is) c.in_ok-push-in-PostroutingBeforeNat.ensures.items

pub returns-in_ok-push-in-PostroutingNat : goal.returns-in_ok-push-in-PostroutingNat
returns-in_ok-push-in-PostroutingNat c = added c.args.self.now c.push-in-PostroutingNat.new.self c.args.start c.args.hook stages.PostroutingNat
    (sym c.stage_of.ensures ∙ c.in-Some.is ∙ ap Some c.in-PostroutingNat.is) c.in_ok-push-in-PostroutingNat.ensures.items

pub returns-in_ok-push-in-PostroutingAfterNat : goal.returns-in_ok-push-in-PostroutingAfterNat
returns-in_ok-push-in-PostroutingAfterNat c = added c.args.self.now c.push-in-PostroutingAfterNat.new.self c.args.start c.args.hook stages.PostroutingAfterNat
    (sym c.stage_of.ensures ∙ c.in-Some.is ∙ ap Some c.in-PostroutingAfterNat.is) c.in_ok-push-in-PostroutingAfterNat.ensures.items
