use Rattle.std.proofs.Common.{◌∙◌, ◌++◌, ap, arith}
use Rattle.set_lines.proofs.PieceLaws.{both_pieces, middle_is, one_piece, two_halves}
use Rattle.set_lines.proofs.pieces.+pieces.Goals as goal

pub returns-in_default : goal.returns-in_default
returns-in_default t c =
    one_piece c.args.diagrams.now c.args.set c.args.field c.args.numbers c.in_ok-vec.field-0.items c.in_ok-vec.ensures.items c.requires.set c.requires.numbers

pub returns : goal.returns
returns t c =
    let halves = c.in-Some.ensures in
    let low = rw c.in-Some-2.is at c.in_ok-all.ensures in
    let high = rw c.in-Some-3.is at c.in_ok-others.ensures in
    both_pieces c.args.diagrams.now c.args.set c.args.field c.in-Some.halves c.args.numbers.low _ c.in-Some-2.all.items c.in-Some-3.others.items
    c.extend_from_slice.new.self.items halves (middle_is c.args.numbers.low c.args.numbers.high c.args.field.width halves.wide c.requires.numbers) low high
    (c.in_ok-extend_from_slice.ensures.items ∙ ap (λ xs. c.in-Some-2.all.items ++ xs) c.deref.ensures.value)

pub pieces-requires : goal.pieces-requires
pieces-requires t c =
    let halves = c.in-Some.ensures in
    let wide = halves.wide in
    let middle = middle_is c.args.numbers.low c.args.numbers.high c.args.field.width wide c.requires.numbers in
    (omega arith, (halves.low, middle))

pub pieces-requires-2 : goal.pieces-requires-2
pieces-requires-2 t c =
    let halves = c.in-Some.ensures in
    let wide = halves.wide in
    let middle = middle_is c.args.numbers.low c.args.numbers.high c.args.field.width wide c.requires.numbers in
    (omega arith, (halves.high, omega (arith, middle, two_halves c.args.field.width wide)))
