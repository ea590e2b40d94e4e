use Rattle.aged_tracker.proofs.Names.{Bool, None, Option, arith, is_some, not, option_cases, sym, ℕ, ◌∙◌, ◌≡◌}
use Rattle.std.proofs.Common.{IsTrue}
use Rattle.aged_tracker.proofs.Index.{same_eq, same_fun}
use Rattle.aged_tracker.proofs.tuple_index.TupleIndex.insert_if_absent.Goals as goal

is_absent : (o : Option ℕ) (b : Bool) → is_some o ≡ not b → IsTrue b → o ≡ None
is_absent o b told new = grind (arith, option_cases o)

pub returns-clause-slots : goal.returns-clause-slots
returns-clause-slots c new q =
    let absent = is_absent c.insert_if_absent.result c.is_none.result c.is_none.ensures new in
    rw (same_eq c.args.tuple q, same_fun) at (c.insert_if_absent.ensures.values (sym c.insert_if_absent.ensures.before ∙ absent) q)
