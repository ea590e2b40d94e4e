use Rattle.std.proofs.Common.{◌≤◌, ◌<◌, length, sym, ap, ◌∙◌, arith}
use Rattle.std.proofs.lemmas.Bool.{ltb-false, ltb-true}
use Rattle.std.proofs.lemmas.List.{get_or_default}
use Rattle.set_intervals.proofs.PairLaws.{holds_read}
use Rattle.set_intervals.proofs.PieceLaws.{not_held}
use Rattle.set_intervals.proofs.ShortLaws.{short_half}
use Rattle.set_intervals.proofs.table.find_short.Goals as goal
use Rattle.set_intervals.proofs.table.find_short.Goals.{in_default-via-in-Some+else-low_half-key, in_default-via-in_default}

pub returns-in-Some : goal.returns-in-Some
returns-in-Some g c =
    let xs = c.args.pieces.now in
    let at = c.short_lower_bound-at.result in
    let piece = c.in-Some.field-0.now in
    let lt : at < length xs = ltb-true _ _ (sym c.in-Some.ensures.lookup.0) in
    let is = c.in-Some.ensures.lookup.1 in
    let high : c.args.key ≤ piece.0.high = omega (arith, (c.short_lower_bound-at.ensures at piece lt).1, ap (λ p. p.0.high) is) in
    let short : piece.0.high < 18446744073709551616 = omega (arith, c.requires.short at piece lt, ap (λ p. p.0.high) is) in
    let half = short_half piece.0.low (omega (arith, short, piece.0.ordered)) in
    holds_read xs at piece c.args.key lt is (record { above = omega (arith, half); below = high })

pub returns-in_default : goal.returns-in_default
returns-in_default g c =
    let xs = c.args.pieces.now in
    not_held xs c.requires.table.separate c.args.key c.short_lower_bound-at.result c.short_lower_bound-at.ensures
    (λ d lt. elim c.in_default.branch [
      | in_default-via-in-Some+else-low_half-key w ↦
          let piece = w.in-Some.field-0.now in
          let here = ap (λ p. p.0.low) (w.in-Some.ensures.lookup.1 ∙ get_or_default _ _ piece d lt) in
          let high = ap (λ p. p.0.high) (w.in-Some.ensures.lookup.1 ∙ get_or_default _ _ piece d lt) in
          let half = short_half piece.0.low (omega (arith, c.requires.short _ d lt, high, piece.0.ordered)) in
          omega (arith, w.low.ensures, w.low_half.ensures, half, w.if-low_half-key.false, here)
      | in_default-via-in_default w ↦ absurd (omega (arith, lt, ltb-false _ _ (sym w.in_default.ensures.lookup.0)))
    ])
