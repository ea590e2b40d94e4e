use Rattle.lowering.proofs.Names.{IfOk-weaker, same}
use Rattle.lowering.proofs.ByName.{stays}
use Rattle.lowering.proofs.lookup_tables.add_verdicts.Goals as goal

pub returns-clause-gives : goal.returns-clause-gives
returns-clause-gives c = IfOk-weaker c.add_table.result _ _ (λ i at later grown.
    stays _ later.verdicts.items i same _ (c.in_ok-table.table, at, rw c.kind.ensures at c.in_ok-table.ensures) grown.verdicts) c.add_table.ensures.at
