-- Differences of two rulesets in stages, one after another.
use Rattle.std.specs.Prelude.{◌≡◌, ◌⊎◌, Bool, List, ◌++◌, All}
use Rattle.nft_tree.specs.Tree.{TableTree}
use Rattle.box_file.specs.Box.{PlantTree}
use Rattle.packet_sets.specs.Sets.{DiagramsView}
use Rattle.rule_meaning.specs.declared.facts.Facts.{Facts}
use Rattle.rule_meaning.specs.declared.stage.HookStage.{HookStage}
use Rattle.rule_meaning.specs.Same.{SameAt}
use Rattle.ruleset_diff.specs.declared.differences.Difference.{Difference}
use Rattle.ruleset_diff.specs.Differences.{Comes, IsAmong, IsDifference}

-- a packet with these facts that comes to the stage has the same results there, or is in one of these differences
abbrev pub IsCovered : PlantTree → (old new : List TableTree) → (Facts → Bool) → DiagramsView → List Difference
    → HookStage → Facts → Type 0
IsCovered network old new within d its stage f = Comes within network stage f → SameAt network old new stage f ⊎ IsAmong network old new d its stage f

-- all differences in the stage were added
pub record AddsStage (network : PlantTree) (old new : List TableTree) (within : Facts → Bool) (d : DiagramsView)
    (stage : HookStage) (before after : List Difference) : Type 0 where
  pub more : List Difference
  pub added : after ≡ before ++ more
  pub are : All (IsDifference network old new within d) more
  pub all : (f : Facts) → IsCovered network old new within d more stage f
