-- Base chains sorted to their stages.
use Rattle.std.proofs.Common.{◌≡◌, Bool, true, false, ◌&&◌, cond, List, [], ◌∷◌, ◌++◌, Option, Some, None, filter, refl, sym, ap, ap₂, ◌∙◌}
use Rattle.std.proofs.Common.{Vec, Global, arith}
use Rattle.std.proofs.lemmas.List.{append-nil}
use Rattle.std.proofs.lemmas.List.Elements.{filter_agree}
use Rattle.nft_tree.specs.declared.chain.Hook.{Hook}
use Rattle.nft_tree.specs.declared.chain.Hook.TheVariants as hooks
use Rattle.rule_meaning.specs.Hooks.{same_hook}
use Rattle.compiler.specs.Compiled.{start_head}
use Rattle.hook_runs.specs.declared.stages.StagedChains.{StagedChains}
use Rattle.filter_vm.specs.declared.code.Code.{Code}
use Rattle.filter_vm.specs.declared.code.Start.{Start}
use Rattle.rule_meaning.specs.declared.stage.HookStage.{HookStage}
use Rattle.rule_meaning.specs.declared.stage.HookStage.TheVariants as stages
use Rattle.hook_runs.specs.Stages.{StageStarts, stage_starts}
use Rattle.hook_runs.specs.steps.Starts.{hook_of, is_that, runs_in, same_stage, stage_of, staged_starts, starts_of_stage}

-- what runs in a stage is on its hook
keeps : (hook : Hook) (stage : HookStage) (s : Start) → runs_in hook stage s ≡ same_hook hook (hook_of stage) && runs_in (hook_of stage) stage s
keeps hooks.Prerouting stages.PreroutingRaw s = refl
keeps hooks.Prerouting stage s = grind arith
keeps hooks.Input stages.PreroutingRaw s = grind arith
keeps hooks.Input stage s = grind arith
keeps hooks.Forward stages.PreroutingRaw s = grind arith
keeps hooks.Forward stage s = grind arith
keeps hooks.Output stages.PreroutingRaw s = refl
keeps hooks.Output stage s = refl
keeps hooks.Postrouting stages.PreroutingRaw s = grind arith
keeps hooks.Postrouting stage s = grind arith

none_or_all : (own : Bool) (test : Start → Bool) (ss : List Start) → filter (λ s. own && test s) ss ≡ cond own (filter test ss) []
none_or_all true test ss = refl
none_or_all false test [] = refl
none_or_all false test (s ∷ ss) = none_or_all false test ss

-- so starts of another hook add nothing to it
of_hook : (hook : Hook) (stage : HookStage) (ss : List Start)
    → filter (runs_in hook stage) ss ≡ cond (same_hook hook (hook_of stage)) (filter (runs_in (hook_of stage) stage) ss) []
of_hook hook stage ss =
    filter_agree (runs_in hook stage) (λ s. same_hook hook (hook_of stage) && runs_in (hook_of stage) stage s) (keeps hook stage) ss
    ∙ none_or_all (same_hook hook (hook_of stage)) (runs_in (hook_of stage) stage) ss

-- ---- one start more

-- other starts in a stage
abbrev with_starts : HookStage → StagedChains → Vec Start Global → StagedChains
with_starts stages.PreroutingRaw p starts = record p { prerouting_raw = starts }
with_starts stages.PreroutingBeforeNat p starts = record p { prerouting_before_nat = starts }
with_starts stages.PreroutingNat p starts = record p { prerouting_nat = starts }
with_starts stages.PreroutingAfterNat p starts = record p { prerouting_after_nat = starts }
with_starts stages.Input p starts = record p { input = starts }
with_starts stages.Forward p starts = record p { forward = starts }
with_starts stages.PostroutingBeforeNat p starts = record p { postrouting_before_nat = starts }
with_starts stages.PostroutingNat p starts = record p { postrouting_nat = starts }
with_starts stages.PostroutingAfterNat p starts = record p { postrouting_after_nat = starts }

changed : (p : StagedChains) (starts : Vec Start Global) (more : List Start) (its stage : HookStage) → starts.items ≡ staged_starts p its ++ more
    → staged_starts (with_starts its p starts) stage ≡ staged_starts p stage ++ cond (same_stage its stage) more []
changed p starts more stages.PreroutingRaw stages.PreroutingRaw is = is
changed p starts more stages.PreroutingBeforeNat stages.PreroutingBeforeNat is = is
changed p starts more stages.PreroutingNat stages.PreroutingNat is = is
changed p starts more stages.PreroutingAfterNat stages.PreroutingAfterNat is = is
changed p starts more stages.Input stages.Input is = is
changed p starts more stages.Forward stages.Forward is = is
changed p starts more stages.PostroutingBeforeNat stages.PostroutingBeforeNat is = is
changed p starts more stages.PostroutingNat stages.PostroutingNat is = is
changed p starts more stages.PostroutingAfterNat stages.PostroutingAfterNat is = is
changed p starts more its stage is = sym (append-nil (staged_starts p stage))

pub added : (p : StagedChains) (starts : Vec Start Global) (s : Start) (hook : Hook) (its : HookStage) → stage_of hook (start_head s) ≡ Some its
    → starts.items ≡ staged_starts p its ++ s ∷ [] → (stage : HookStage)
    → staged_starts (with_starts its p starts) stage ≡ staged_starts p stage ++ filter (runs_in hook stage) (s ∷ [])
added p starts s hook its runs is stage = changed p starts (s ∷ []) its stage is
    ∙ ap (λ (o : Option HookStage). staged_starts p stage ++ cond (is_that stage o) (s ∷ []) []) (sym runs)

pub none_added : (p : StagedChains) (s : Start) (hook : Hook) → stage_of hook (start_head s) ≡ None → (stage : HookStage)
    → staged_starts p stage ≡ staged_starts p stage ++ filter (runs_in hook stage) (s ∷ [])
none_added p s hook runs stage = sym (append-nil (staged_starts p stage))
    ∙ ap (λ (o : Option HookStage). staged_starts p stage ++ cond (is_that stage o) (s ∷ []) []) (sym runs)

-- ---- all hooks

-- where the starts of all hooks were added in turn, each stage has its own
pub all_sorted : (code : Code) (none pre input forward : HookStage → List Start) (p : StageStarts)
    → ((stage : HookStage) → none stage ≡ [])
    → ((stage : HookStage) → pre stage ≡ none stage ++ filter (runs_in hooks.Prerouting stage) code.prerouting.items)
    → ((stage : HookStage) → input stage ≡ pre stage ++ filter (runs_in hooks.Input stage) code.input.items)
    → ((stage : HookStage) → forward stage ≡ input stage ++ filter (runs_in hooks.Forward stage) code.forward.items)
    → ((stage : HookStage) → stage_starts p stage ≡ forward stage ++ filter (runs_in hooks.Postrouting stage) code.postrouting.items)
    → (stage : HookStage) → stage_starts p stage ≡ starts_of_stage code stage
all_sorted code none pre input forward p a b c d e stage =
    e stage ∙ ap₂ ◌++◌ (d stage ∙ ap₂ ◌++◌ (c stage ∙ ap₂ ◌++◌ (b stage ∙ ap₂ ◌++◌ (a stage)
    (of_hook hooks.Prerouting stage code.prerouting.items)) (of_hook hooks.Input stage code.input.items))
    (of_hook hooks.Forward stage code.forward.items)) (of_hook hooks.Postrouting stage code.postrouting.items) ∙ alone stage
  where
    alone : (stage : HookStage)
        → (((cond (same_hook hooks.Prerouting (hook_of stage)) (filter (runs_in (hook_of stage) stage) code.prerouting.items) []
        ++ cond (same_hook hooks.Input (hook_of stage)) (filter (runs_in (hook_of stage) stage) code.input.items) [])
        ++ cond (same_hook hooks.Forward (hook_of stage)) (filter (runs_in (hook_of stage) stage) code.forward.items) [])
        ++ cond (same_hook hooks.Postrouting (hook_of stage)) (filter (runs_in (hook_of stage) stage) code.postrouting.items) [])
        ≡ starts_of_stage code stage
    alone stages.PostroutingBeforeNat = refl
    alone stages.PostroutingNat = refl
    alone stages.PostroutingAfterNat = refl
    alone stage = simp append-nil refl
