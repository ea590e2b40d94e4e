-- What is told of two rulesets on a box (own).
use Rattle.std.specs.Prelude.{◌≡◌, Bool, true, false, List, codes}
use Rattle.nft_tree.specs.Tree.{Text, TableTree}
use Rattle.box_file.specs.Box.{PlantTree}
use Rattle.rule_meaning.specs.declared.facts.Facts.{Facts}
use Rattle.rule_meaning.specs.declared.event.HookVerdict.{HookVerdict}
use Rattle.rule_meaning.specs.declared.stage.HookStage.{HookStage}
use Rattle.rule_meaning.specs.Same.{SameAt}
use Rattle.ruleset_diff.specs.Differences.{Comes, DiffersAt}

abbrev pub same_line : Text
same_line = codes "the same for every packet\n"

module _ (network : PlantTree) (old new : List TableTree) (within : Facts → Bool) where
  -- with each packet that comes to a stage, of which that is assumed, they do the same there
  abbrev pub AllSame : Type 0
  AllSame = (stage : HookStage) (f : Facts) → Comes within network stage f → SameAt network old new stage f

  -- with some such packet they don't
  pub record SomeDiffers : Type 0 where
    pub stage : HookStage
    pub facts : Facts
    pub comes : Comes within network stage facts
    pub verdict : HookVerdict
    pub other : HookVerdict
    pub differs : DiffersAt network old new stage facts verdict other

  -- it is said that they are the same, in one line, exactly where they are
  pub record Tells (same : Bool) (text : Text) : Type 0 where
    pub are_same : same ≡ true → AllSame
    pub line : same ≡ true → text ≡ same_line
    pub differ : same ≡ false → SomeDiffers
