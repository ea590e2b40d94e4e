-- Base chains through which packets run.
use Rattle.std.specs.Prelude.{Bool, List, [], ◌∷◌}
use Rattle.std.specs.List.{list_any}
use Rattle.nft_tree.specs.TreeViews.{head_tree}
use Rattle.rule_meaning.specs.declared.stage.HookStage.{HookStage}
use Rattle.rule_meaning.specs.declared.stage.HookStage.TheVariants as stages
use Rattle.rule_meaning.specs.Hooks.{BaseChain, chains_in_stage}
use Rattle.coming_sets.specs.declared.base.Base.{Base}

abbrev pub STAGES : List HookStage
STAGES = stages.PreroutingRaw ∷ stages.PreroutingBeforeNat ∷ stages.PreroutingNat ∷ stages.PreroutingAfterNat
    ∷ stages.Input ∷ stages.Forward ∷ stages.PostroutingBeforeNat ∷ stages.PostroutingNat
    ∷ stages.PostroutingAfterNat ∷ []

-- it runs in one of the stages: all do but those on output, and chains of type nat on input and forward,
-- which a well-formed ruleset has none of
abbrev pub runs : BaseChain → Bool
runs b = list_any (λ stage. chains_in_stage stage b) STAGES

-- a base chain as the code has it
abbrev pub base_chain : Base → BaseChain
base_chain b = record { number = b.number; head = head_tree b.head.now }
