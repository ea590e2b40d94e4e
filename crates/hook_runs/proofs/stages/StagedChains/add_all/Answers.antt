use Rattle.std.proofs.Common.{sym}
use Rattle.std.proofs.lemmas.List.{append-nil}
use Rattle.hook_runs.specs.steps.Starts.{staged_starts}
use Rattle.hook_runs.proofs.stages.StagedChains.add_all.Goals as goal

pub loop-start-init : goal.loop-start-init
loop-start-init c = λ stage. sym (append-nil (staged_starts c.args.self.now stage))
