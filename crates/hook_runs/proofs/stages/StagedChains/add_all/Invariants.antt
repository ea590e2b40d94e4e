use Rattle.std.proofs.Common.{◌≡◌, ◌++◌, filter, take}
use Rattle.rule_meaning.specs.declared.stage.HookStage.{HookStage}
use Rattle.hook_runs.specs.steps.Starts.{runs_in, staged_starts}
use Rattle.hook_runs.proofs.stages.StagedChains.add_all.Given as goal

-- the starts so far
abbrev pub invariant-loop-start : goal.invariant-loop-start
invariant-loop-start l = (stage : HookStage)
    → staged_starts l.self stage ≡ staged_starts l.fn.self stage ++ filter (runs_in l.hook stage) (take l.start-index l.starts)
