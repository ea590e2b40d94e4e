use Rattle.hook_runs.proofs.runs.HookRuns.costs.Goals as goal

pub returns : goal.returns
returns c = rw (← c.self.view_is) c.self.invariant.few
