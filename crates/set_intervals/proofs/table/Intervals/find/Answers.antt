use Rattle.std.proofs.Common.{arith}
use Rattle.std.proofs.Common.{◌∙◌, subst}
use Rattle.std.specs.Option.{option_copied}
use Rattle.set_intervals.specs.steps.Pieces.{IsTable}
use Rattle.set_intervals.proofs.PairLaws.{Says, first_value_holds, same_itself}
use Rattle.set_intervals.proofs.PieceLaws.{one_answer}
use Rattle.set_intervals.proofs.ShortLaws.{short_half}
use Rattle.set_intervals.proofs.table.Intervals.find.Goals as goal

pub find_in-requires : goal.find_in-requires
find_in-requires g c = grind arith

pub returns-clause-first_values : goal.returns-clause-first_values
returns-clause-first_values g c =
    let e = c.deref-2.ensures.value ∙ c.self.view_is in
    let table = subst IsTable c.self.view_is c.self.invariant.0 in
    one_answer _ _ table.separate (same_itself _) c.args.key _ _
    (subst (λ l. Says l c.args.key (option_copied c.find_in.result)) e c.find_in.ensures) (first_value_holds _ c.args.key)

pub returns-then-key-lt-SHORT-clause-first_values : goal.returns-then-key-lt-SHORT-clause-first_values
returns-then-key-lt-SHORT-clause-first_values g c =
    let e = c.deref.ensures.value ∙ c.self.view_is in
    let table = subst IsTable c.self.view_is c.self.invariant.0 in
    let answer = option_copied c.find_short.result in
    let says = subst (λ k. Says c.deref.result.now k answer) (short_half c.args.key (omega arith)) c.find_short.ensures in
    one_answer _ _ table.separate (same_itself _) c.args.key _ _
    (subst (λ l. Says l c.args.key answer) e says) (first_value_holds _ c.args.key)
