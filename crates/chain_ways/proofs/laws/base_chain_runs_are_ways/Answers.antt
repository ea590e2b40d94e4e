use Rattle.chain_ways.proofs.BaseChains.{base_chain_runs_are_ways}
use Rattle.chain_ways.proofs.laws.base_chain_runs_are_ways.Goals as goal

pub returns : goal.returns
returns c =
    base_chain_runs_are_ways c.rule_runs_to_its_end.ensures c.path_faults_decidable.ensures.cycles c.costs_exist.ensures
    c.costs_rank_chains.ensures c.hooks_terminate.ensures.base
