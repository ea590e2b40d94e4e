-- When two rulesets do the same with all packets that can come to the stages of hooks. (own)
use Rattle.std.specs.Prelude.{◌≡◌, true, List}
use Rattle.nft_tree.specs.Tree.{TableTree}
use Rattle.box_file.specs.Box.{PlantTree}
use Rattle.rule_meaning.specs.declared.facts.Facts.{Facts}
use Rattle.rule_meaning.specs.declared.stage.HookStage.{HookStage}
use Rattle.fact_sets.specs.Boxes.{IsOfBox}
use Rattle.rule_sets.specs.Interfaces.{interfaces_of}
use Rattle.coming_sets.specs.Coming.{can_come_to}
use Rattle.rule_meaning.specs.Same.{SameAt}

-- at each stage, with all facts of the box with which packets can come there
abbrev pub AllSame : PlantTree → (old new : List TableTree) → Type 0
AllSame network old new = (stage : HookStage) (f : Facts) → IsOfBox (interfaces_of network) f
    → can_come_to stage f ≡ true → SameAt network old new stage f
