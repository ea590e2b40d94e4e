use Rattle.std.proofs.Common.{Some, subst, sym}
use Rattle.set_intervals.specs.Pairs.{first_value}
use Rattle.set_intervals.proofs.PairLaws.{first_value_holds, holds_read, same_itself}
use Rattle.set_intervals.proofs.PieceLaws.{one_answer}
use Rattle.set_intervals.specs.steps.Pieces.{IsTable}
use Rattle.set_intervals.proofs.table.Intervals.pieces.Goals as goal

pub returns-clause-first_values : goal.returns-clause-first_values
returns-clause-first_values g c piece key inside covers =
    let pieces = c.args.self.now in
    let table = subst IsTable c.self.view_is c.self.invariant.0 in
    sym (one_answer pieces pieces table.separate (same_itself pieces) key (Some piece.1) (first_value pieces key)
    (holds_read pieces inside.0 piece key inside.1 (sym inside.2) covers) (first_value_holds pieces key))
