use Rattle.lowering.proofs.Names.{IfOk-weaker, is_some}
use Rattle.lowering.proofs.ByName.{stays}
use Rattle.lowering.proofs.lookup_tables.add_set.Goals as goal

pub returns-clause-has : goal.returns-clause-has
returns-clause-has c = IfOk-weaker c.add_table.result _ _ (λ i at later grown. stays _ later.sets.items i is_some _
    (c.in_ok-table.table, at, rw (c.deref.ensures.value, c.in_ok-kinds.ensures) at c.in_ok-table.ensures) grown.sets) c.add_table.ensures.at
