use Rattle.lowering.proofs.Names.{Keeps, List, [], suc, zero, ◌++◌, ◌∷◌}
use Rattle.lowering.proofs.lookup_tables.add_table.Goals as goal

kept : {A : Type 0} (xs : List A) (y : A) → Keeps xs (xs ++ y ∷ [])
kept [] y i x at = absurd cc
kept (z ∷ zs) y zero x at = at
kept (z ∷ zs) y (suc i) x at = kept zs y i x at

pub returns-clause-keeps : goal.returns-clause-keeps
returns-clause-keeps g c = rw c.in_ok-push.ensures.items (kept c.args.tables.now.items c.args.table)
