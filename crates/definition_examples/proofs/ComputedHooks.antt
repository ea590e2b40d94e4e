-- The stages of hooks by the interpreter, with a call depth below 4.
use Rattle.std.proofs.Common.{◌≡◌, List, [], Some}
use Rattle.nft_tree.specs.Tree.{TableTree}
use Rattle.rule_meaning.specs.declared.facts.Facts.{Facts}
use Rattle.rule_meaning.specs.declared.stage.HookStage.{HookStage}
use Rattle.rule_meaning.specs.declared.stage.HookStage.TheVariants as stages
use Rattle.rule_meaning.specs.Hooks.{HookResult, Stage, chains_in_stage}
use Rattle.definition_examples.specs.Fixtures.{box}
use Rattle.definition_examples.proofs.HookInterpreter.{chains_run, chains_sound}

pub in_stage : (stage : HookStage) (tables : List TableTree) (f : Facts) (hook_result : HookResult)
    → chains_run box tables 4 (chains_in_stage stage) f [] ≡ Some hook_result → Stage stage box tables f [] hook_result
in_stage stage tables f hook_result is = chains_sound box tables 4 (chains_in_stage stage) f [] hook_result is

pub forwards : (tables : List TableTree) (f : Facts) (hook_result : HookResult)
    → chains_run box tables 4 (chains_in_stage stages.Forward) f [] ≡ Some hook_result → Stage stages.Forward box tables f [] hook_result
forwards = in_stage stages.Forward
