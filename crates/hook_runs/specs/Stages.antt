-- The stages of hooks in code, and what they cost. (own)
use Rattle.std.specs.Prelude.{ℕ, ◌+◌, List}
use Rattle.nft_tree.specs.Tree.{TableTree}
use Rattle.box_file.specs.Box.{PlantTree}
use Rattle.filter_vm.specs.declared.code.Code.{Code}
use Rattle.filter_vm.specs.declared.code.Start.{Start}
use Rattle.rule_meaning.specs.declared.stage.HookStage.{HookStage}
use Rattle.rule_meaning.specs.declared.stage.HookStage.TheVariants as stages

-- what each stage costs: the most statements that its base chains start, plus 1 for each chain. A base
-- chain runs in one stage, but for those of hook output and those of type nat on input or forward, which
-- run in none
pub record StageCosts : Type 0 where
  pub prerouting_raw : ℕ
  pub prerouting_before_nat : ℕ
  pub prerouting_nat : ℕ
  pub prerouting_after_nat : ℕ
  pub input : ℕ
  pub forward : ℕ
  pub postrouting_before_nat : ℕ
  pub postrouting_nat : ℕ
  pub postrouting_after_nat : ℕ

-- the starts of each stage in the code, in the order in which they run
pub record StageStarts : Type 0 where
  pub prerouting_raw : List Start
  pub prerouting_before_nat : List Start
  pub prerouting_nat : List Start
  pub prerouting_after_nat : List Start
  pub input : List Start
  pub forward : List Start
  pub postrouting_before_nat : List Start
  pub postrouting_nat : List Start
  pub postrouting_after_nat : List Start

-- those of one stage
abbrev pub stage_starts : StageStarts → HookStage → List Start
stage_starts starts stages.PreroutingRaw = starts.prerouting_raw
stage_starts starts stages.PreroutingBeforeNat = starts.prerouting_before_nat
stage_starts starts stages.PreroutingNat = starts.prerouting_nat
stage_starts starts stages.PreroutingAfterNat = starts.prerouting_after_nat
stage_starts starts stages.Input = starts.input
stage_starts starts stages.Forward = starts.forward
stage_starts starts stages.PostroutingBeforeNat = starts.postrouting_before_nat
stage_starts starts stages.PostroutingNat = starts.postrouting_nat
stage_starts starts stages.PostroutingAfterNat = starts.postrouting_after_nat

-- a checked ruleset, the box that it was checked for, its code with the starts of its stages, and what they
-- cost
pub record CostedTree : Type 0 where
  pub rules : List TableTree
  pub network : PlantTree
  pub code : Code
  pub starts : StageStarts
  pub costs : StageCosts

-- what a stage costs
abbrev pub stage_cost : CostedTree → HookStage → ℕ
stage_cost runs stages.PreroutingRaw = runs.costs.prerouting_raw
stage_cost runs stages.PreroutingBeforeNat = runs.costs.prerouting_before_nat
stage_cost runs stages.PreroutingNat = runs.costs.prerouting_nat
stage_cost runs stages.PreroutingAfterNat = runs.costs.prerouting_after_nat
stage_cost runs stages.Input = runs.costs.input
stage_cost runs stages.Forward = runs.costs.forward
stage_cost runs stages.PostroutingBeforeNat = runs.costs.postrouting_before_nat
stage_cost runs stages.PostroutingNat = runs.costs.postrouting_nat
stage_cost runs stages.PostroutingAfterNat = runs.costs.postrouting_after_nat

-- what all stages cost together
abbrev pub total_stage_cost : CostedTree → ℕ
total_stage_cost runs =
    runs.costs.prerouting_raw + runs.costs.prerouting_before_nat + runs.costs.prerouting_nat
    + runs.costs.prerouting_after_nat + runs.costs.input + runs.costs.forward
    + runs.costs.postrouting_before_nat + runs.costs.postrouting_nat + runs.costs.postrouting_after_nat
