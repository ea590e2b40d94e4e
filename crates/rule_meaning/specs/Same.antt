-- When two rulesets do the same with a packet in a stage of a hook. (own)
use Rattle.std.specs.Prelude.{◌≡◌, List, []}
use Rattle.nft_tree.specs.Tree.{TableTree}
use Rattle.box_file.specs.Box.{PlantTree}
use Rattle.rule_meaning.specs.declared.facts.Facts.{Facts}
use Rattle.rule_meaning.specs.declared.event.HookVerdict.{HookVerdict}
use Rattle.rule_meaning.specs.declared.event.HookVerdict.TheVariants.{Dropped}
use Rattle.rule_meaning.specs.declared.stage.HookStage.{HookStage}
use Rattle.rule_meaning.specs.Hooks.{HookResult, Stage}

-- a packet goes on behind chains with this verdict
abbrev pub GoesOn : HookVerdict → Type 0
GoesOn Dropped = ⊥
GoesOn _ = Unit {0}

-- the same verdict, a NAT statement's with its addresses and ports; and the same facts, marks and `notrack`
-- among them, where the packet goes on: nothing reads those of one that is dropped
pub record SameResult (result other : HookResult) : Type 0 where
  pub verdict : result.verdict ≡ other.verdict
  pub facts : GoesOn result.verdict → result.facts ≡ other.facts

-- with these facts a packet has the same results in the stage by both rulesets
abbrev pub SameAt : PlantTree → (old new : List TableTree) → HookStage → Facts → Type 0
SameAt network old new stage f =
    (result other : HookResult) → Stage stage network old f [] result → Stage stage network new f [] other
    → SameResult result other
