use Rattle.std.proofs.Common.{◌-◌, length, sym, ap, arith}
use Rattle.std.proofs.lemmas.Bool.{ltb-true}
use Rattle.std.proofs.lemmas.List.{get_or_default}
use Rattle.set_intervals.proofs.PieceLaws.{highs_rise}
use Rattle.set_intervals.proofs.table.are_short.Goals as goal

pub returns-in-Some : goal.returns-in-Some
returns-in-Some g c = λ yes i d lt.
    let xs = c.args.pieces.now in
    let piece = c.in-Some.field-0.now in
    let some = ltb-true _ _ (sym c.in-Some.ensures.item.0) in
    let below = highs_rise xs c.requires.separate i (length xs - 1) piece (omega (arith, lt)) (omega (arith, some)) in
    omega (arith, below, ltb-true _ _ yes, ap (λ p. p.0.high) c.in-Some.ensures.item.1, ap (λ p. p.0.high) (get_or_default xs i piece d lt))
