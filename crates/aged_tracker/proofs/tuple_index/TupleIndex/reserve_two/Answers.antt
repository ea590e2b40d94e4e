use Rattle.aged_tracker.proofs.Index.{same_fun}
use Rattle.aged_tracker.proofs.tuple_index.TupleIndex.reserve_two.Goals as goal

pub returns-clause-slots : goal.returns-clause-slots
returns-clause-slots c q = rw same_fun at (c.reserve.ensures.values q)
