use Rattle.connection_table.proofs.Mapped.{mappings_in-touched_at}
use Rattle.connection_table.proofs.table.ConnectionTable.touch.Goals as goal

pub invariant_of-self : goal.invariant_of-self
invariant_of-self g c m =
    rw (c.touch.ensures.held, mappings_in-touched_at _ _ _ _ _ _) (c.self.invariant m)
