use Rattle.chain_ways.proofs.Stages.{stage_runs_are_ways}
use Rattle.chain_ways.proofs.laws.stage_runs_are_ways.Goals as goal

pub returns : goal.returns
returns c = λ tables network well.
    stage_runs_are_ways network tables (λ b has t at. c.base_chain_runs_are_ways.ensures tables network well b has t at)
    c.hook_result_unique.ensures.order (c.hooks_terminate.ensures.stages tables network well)
