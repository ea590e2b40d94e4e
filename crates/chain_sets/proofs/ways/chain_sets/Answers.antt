use Rattle.std.proofs.lemmas.Result.{IfOk-weaker}
use Rattle.rule_meaning.specs.Runs.{table_program}
use Rattle.chain_ways.specs.Ways.{way}
use Rattle.chain_sets.specs.RuleSets.{sets_of}
use Rattle.chain_sets.proofs.Beginning.{on_ways}
use Rattle.chain_sets.proofs.ways.chain_sets.Goals as goal

pub returns-clause-value : goal.returns-clause-value
returns-clause-value c =
    let p = table_program c.args.setting.network.now c.args.chain.table c.args.setting.names.now in
    IfOk-weaker c.chain_sets_from.result _ _ (λ sets from levels deep. on_ways p c.args.interfaces.now (way p levels c.args.chain.chain)
    c.args.diagrams.now c.chain_sets_from.new.diagrams c.args.set (sets_of sets.rules) sets.ends.items (from levels deep))
    c.chain_sets_from.ensures.value
