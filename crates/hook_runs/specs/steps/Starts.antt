-- Base chains as starts of code: which run in which stage, their results one after another, and their
-- costs.
use Rattle.std.specs.Prelude.{◌≡◌, ℕ, ◌≤◌, ℤ, int_lt, Bool, true, false, cond, List, [], ◌∷◌, filter, sum_by}
use Rattle.std.specs.Prelude.{Option, Some, None}
use Rattle.nft_tree.specs.declared.chain.Hook.{Hook}
use Rattle.nft_tree.specs.declared.chain.Hook.TheVariants as hooks
use Rattle.rule_check.specs.Checked.{CheckedTree}
use Rattle.rule_meaning.specs.declared.facts.Facts.{Facts}
use Rattle.rule_meaning.specs.declared.event.Event.{Event}
use Rattle.rule_meaning.specs.declared.event.HookVerdict.TheVariants.{Accepted}
use Rattle.rule_meaning.specs.Hooks.{HookResult}
use Rattle.filter_vm.specs.declared.code.Code.{Code}
use Rattle.filter_vm.specs.declared.code.Start.{Start}
use Rattle.filter_vm.specs.Machine.{base_chain_result, starts_of}
use Rattle.compiler.specs.Compiled.{StartHead, start_head}
use Rattle.nft_tree.specs.Priorities.{AFTER_CONNTRACK, DSTNAT, SRCNAT}
use Rattle.rule_meaning.specs.Hooks.{chains_in_stage}
use Rattle.hook_runs.specs.Stages.{StageCosts, StageStarts, CostedTree, total_stage_cost, stage_starts}
use Rattle.rule_meaning.specs.declared.stage.HookStage.{HookStage}
use Rattle.rule_meaning.specs.declared.stage.HookStage.TheVariants as stages
use Rattle.hook_runs.specs.declared.stages.StagedChains.{StagedChains}
use Rattle.hook_runs.specs.StageCode.{AreStarts, continues}
use Rattle.filter_vm.specs.declared.events.TheConstants.{MOST_EVENTS}

-- ---- the starts of a stage

abbrev pub starts_in : StagedChains → StageStarts
starts_in p = record {
  prerouting_raw = p.prerouting_raw.items;
  prerouting_before_nat = p.prerouting_before_nat.items;
  prerouting_nat = p.prerouting_nat.items;
  prerouting_after_nat = p.prerouting_after_nat.items;
  input = p.input.items;
  forward = p.forward.items;
  postrouting_before_nat = p.postrouting_before_nat.items;
  postrouting_nat = p.postrouting_nat.items;
  postrouting_after_nat = p.postrouting_after_nat.items;
}

abbrev pub staged_starts : StagedChains → HookStage → List Start
staged_starts p = stage_starts (starts_in p)

abbrev pub comes_before : ℤ → StartHead → Bool
comes_before priority s = int_lt s.priority priority

-- the stage of a start on prerouting, and on postrouting
abbrev pub prerouting_stage : StartHead → HookStage
prerouting_stage s = cond s.is_nat stages.PreroutingNat (cond (comes_before AFTER_CONNTRACK s) stages.PreroutingRaw
    (cond (comes_before DSTNAT s) stages.PreroutingBeforeNat stages.PreroutingAfterNat))

abbrev pub postrouting_stage : StartHead → HookStage
postrouting_stage s = cond s.is_nat stages.PostroutingNat
    (cond (comes_before SRCNAT s) stages.PostroutingBeforeNat stages.PostroutingAfterNat)

-- of one on a hook
abbrev pub stage_of : Hook → StartHead → Option HookStage
stage_of hooks.Prerouting s = Some (prerouting_stage s)
stage_of hooks.Input s = cond s.is_nat None (Some stages.Input)
stage_of hooks.Forward s = cond s.is_nat None (Some stages.Forward)
stage_of hooks.Output s = None
stage_of hooks.Postrouting s = Some (postrouting_stage s)

abbrev pub same_stage : HookStage → HookStage → Bool
same_stage stages.PreroutingRaw stages.PreroutingRaw = true
same_stage stages.PreroutingBeforeNat stages.PreroutingBeforeNat = true
same_stage stages.PreroutingNat stages.PreroutingNat = true
same_stage stages.PreroutingAfterNat stages.PreroutingAfterNat = true
same_stage stages.Input stages.Input = true
same_stage stages.Forward stages.Forward = true
same_stage stages.PostroutingBeforeNat stages.PostroutingBeforeNat = true
same_stage stages.PostroutingNat stages.PostroutingNat = true
same_stage stages.PostroutingAfterNat stages.PostroutingAfterNat = true
same_stage _ _ = false

abbrev pub is_that : HookStage → Option HookStage → Bool
is_that stage None = false
is_that stage (Some its) = same_stage its stage

-- whether a start of a hook runs in the stage
abbrev pub runs_in : Hook → HookStage → Start → Bool
runs_in hook stage s = is_that stage (stage_of hook (start_head s))

abbrev pub hook_of : HookStage → Hook
hook_of stages.PreroutingRaw = hooks.Prerouting
hook_of stages.PreroutingBeforeNat = hooks.Prerouting
hook_of stages.PreroutingNat = hooks.Prerouting
hook_of stages.PreroutingAfterNat = hooks.Prerouting
hook_of stages.Input = hooks.Input
hook_of stages.Forward = hooks.Forward
hook_of stages.PostroutingBeforeNat = hooks.Postrouting
hook_of stages.PostroutingNat = hooks.Postrouting
hook_of stages.PostroutingAfterNat = hooks.Postrouting

-- those of its hook that run in it, in their order
abbrev pub starts_of_stage : Code → HookStage → List Start
starts_of_stage code stage = filter (runs_in (hook_of stage) stage) (starts_of code (hook_of stage))

abbrev pub AreStagedChains : Code → StagedChains → Type 0
AreStagedChains code p = (stage : HookStage) → staged_starts p stage ≡ starts_of_stage code stage

-- ---- results

-- the next start runs where the verdict is accept
abbrev pub then_continue : HookResult → (Facts → List Event → HookResult) → HookResult
then_continue hook_result next =
    cond (continues hook_result.verdict) (next hook_result.facts hook_result.events) hook_result

abbrev pub in_order_result : Code → List Start → Facts → List Event → HookResult
in_order_result code [] f es = record { verdict = Accepted; facts = f; events = es }
in_order_result code (s ∷ ss) f es = then_continue (base_chain_result code s f es) (in_order_result code ss)

-- ---- costs

abbrev pub cost_of : List Start → ℕ
cost_of ss = sum_by (λ s. s.cost) ss

abbrev pub costs_of : StagedChains → StageCosts
costs_of p = record {
  prerouting_raw = cost_of p.prerouting_raw.items;
  prerouting_before_nat = cost_of p.prerouting_before_nat.items;
  prerouting_nat = cost_of p.prerouting_nat.items;
  prerouting_after_nat = cost_of p.prerouting_after_nat.items;
  input = cost_of p.input.items;
  forward = cost_of p.forward.items;
  postrouting_before_nat = cost_of p.postrouting_before_nat.items;
  postrouting_nat = cost_of p.postrouting_nat.items;
  postrouting_after_nat = cost_of p.postrouting_after_nat.items;
}

-- a checked ruleset with its code, the starts of its stages and what they cost
abbrev pub costed_tree : CheckedTree → Code → StagedChains → CostedTree
costed_tree checked code p = record {
  rules = checked.rules;
  network = checked.network;
  code = code;
  starts = starts_in p;
  costs = costs_of p;
}

-- ---- invariants

-- each stage has its base chains, and all together cost at most the limit
pub record IsCompiled (checked : CheckedTree) (code : Code) (p : StagedChains) : Type 0 where
  pub starts : (stage : HookStage) → AreStarts checked code (chains_in_stage stage) (staged_starts p stage)
  pub few : total_stage_cost (costed_tree checked code p) ≤ MOST_EVENTS
