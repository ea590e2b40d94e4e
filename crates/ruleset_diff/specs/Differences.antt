-- What two rulesets do differently on a box: with which packets, stage by stage. (own)
use Rattle.std.specs.Prelude.{◌≡◌, ◌⊎◌, ℕ, Bool, true, List, [], All, Contains, Option, Some, None}
use Rattle.std.specs.Borrow.{Bor}
use Rattle.nft_tree.specs.Tree.{TableTree}
use Rattle.box_file.specs.Box.{PlantTree}
use Rattle.packet_sets.specs.Sets.{DiagramsView, IsSet, holds}
use Rattle.rule_check.specs.Checked.{CheckedTree}
use Rattle.rule_meaning.specs.declared.facts.Facts.{Facts}
use Rattle.rule_meaning.specs.declared.event.HookVerdict.{HookVerdict}
use Rattle.rule_meaning.specs.declared.stage.HookStage.{HookStage}
use Rattle.rule_meaning.specs.Hooks.{HookResult, Stage}
use Rattle.fact_sets.specs.Boxes.{IsOfBox, NOTHING}
use Rattle.fact_sets.specs.Facts.{facts_of}
use Rattle.rule_sets.specs.Interfaces.{interfaces_of}
use Rattle.chain_ways.specs.BaseWays.{accepts}
use Rattle.coming_sets.specs.Coming.{can_come_to}
use Rattle.rule_meaning.specs.Same.{SameAt, SameResult}
use Rattle.ruleset_diff.specs.declared.differences.Difference.{Difference}

-- what is assumed of the facts with which packets come: that each filter chain of a ruleset accepts them, or
-- nothing
abbrev pub assumption : Option (Bor CheckedTree) → Facts → Bool
assumption None = λ f. true
assumption (Some filter) = accepts filter.now.network filter.now.rules

-- a packet with these facts, of which that is assumed, comes to the stage
pub record Comes (within : Facts → Bool) (network : PlantTree) (stage : HookStage) (f : Facts) : Type 0 where
  pub of_box : IsOfBox (interfaces_of network) f
  pub can : can_come_to stage f ≡ true
  pub assumed : within f ≡ true

module _ (network : PlantTree) (old new : List TableTree) where
  -- with these facts a packet has results in the stage by both rulesets, with these verdicts, which aren't the
  -- same
  pub record DiffersAt (stage : HookStage) (f : Facts) (verdict other : HookVerdict) : Type 0 where
    pub by_old : HookResult
    pub by_new : HookResult
    pub is_old : Stage stage network old f [] by_old
    pub is_new : Stage stage network new f [] by_new
    pub verdict_by_old : by_old.verdict ≡ verdict
    pub verdict_by_new : by_new.verdict ≡ other
    pub differ : SameResult by_old by_new → ⊥

  -- a packet with these facts is in the set of one of the differences in the stage
  pub record IsAmong (d : DiagramsView) (its : List Difference) (stage : HookStage) (f : Facts) : Type 0 where
    pub it : Difference
    pub among : Contains its it
    pub here : it.stage ≡ stage
    pub packet : ℕ → Bool
    pub facts : facts_of (interfaces_of network) NOTHING packet ≡ f
    pub holds : holds d it.set packet ≡ true

  module _ (within : Facts → Bool) where
    -- some packet is in the set, and each comes to the stage, and differs there with these verdicts
    pub record IsDifference (d : DiagramsView) (it : Difference) : Type 0 where
      pub set : IsSet d it.set
      pub example : (packet : ℕ → Bool) × (holds d it.set packet ≡ true)
      pub comes : (packet : ℕ → Bool) → holds d it.set packet ≡ true
          → Comes within network it.stage (facts_of (interfaces_of network) NOTHING packet)
      pub differ : (packet : ℕ → Bool) → holds d it.set packet ≡ true
          → DiffersAt it.stage (facts_of (interfaces_of network) NOTHING packet) it.old.verdict it.new.verdict

    -- these are all differences
    pub record AreDifferences (d : DiagramsView) (its : List Difference) : Type 0 where
      pub are : All (IsDifference d) its
      pub all : (stage : HookStage) (f : Facts) → Comes within network stage f
          → SameAt network old new stage f ⊎ IsAmong d its stage f
