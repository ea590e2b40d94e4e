use Rattle.rule_meaning.specs.Runs.{table_program}
use Rattle.chain_sets.specs.RuleSets.{sets_of}
use Rattle.chain_sets.proofs.Beginning.{none-are-sets, on_ways_from}
use Rattle.chain_sets.proofs.ways.chain_sets_from.Goals as goal

pub walk_chain-requires-clause-visits : goal.walk_chain-requires-clause-visits
walk_chain-requires-clause-visits c =
    none-are-sets c.args.diagrams.now (sets_of c.new-rules.result) c.new-rules.ensures c.ends.ensures.none

pub returns-clause-value : goal.returns-clause-value
returns-clause-value c = λ levels deep.
    on_ways_from (table_program c.args.setting.network.now c.args.chain.table c.args.setting.names.now) c.args.interfaces.now 256 c.args.chain.chain
    c.args.diagrams.now c.walk_chain.new.diagrams c.args.states.now c.in_ok-ends.ends.items (sets_of c.new-rules.result)
    (sets_of c.walk_chain.new.visits) c.new-rules.ensures c.ends.ensures.none c.in_ok-ends.ensures.value levels deep
