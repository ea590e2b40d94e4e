use Rattle.aged_tracker.proofs.Index.{same_eq, same_fun}
use Rattle.aged_tracker.proofs.tuple_index.TupleIndex.remove.Goals as goal

pub returns-clause-slots : goal.returns-clause-slots
returns-clause-slots c q = rw (same_eq c.args.tuple q, same_fun) at (c.remove.ensures.values q)
