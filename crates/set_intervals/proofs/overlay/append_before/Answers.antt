use Rattle.std.proofs.Common.{arith}
use Rattle.set_intervals.proofs.LayerLaws.{adds_part, adds_nothing}
use Rattle.set_intervals.proofs.overlay.append_before.Goals as goal

pub returns-in_ok-append-clause-first_values : goal.returns-in_ok-append-clause-first_values
returns-in_ok-append-clause-first_values g c =
    adds_part c.args.pieces.now.items c.append.new.pieces.items c.args.range c.in-Some.part c.args.other c.args.value
    (omega (arith, c.in-Some.ensures.0, c.in-Some.ensures.1, c.in-Some.part.ordered)) c.in-Some.ensures.0
    c.in-Some.ensures.1 c.in_ok-append.ensures.first_values

pub returns-in_default-clause-first_values : goal.returns-in_default-clause-first_values
returns-in_default-clause-first_values g c = adds_nothing c.args.pieces.now.items c.args.range c.args.other c.args.value c.in_default.ensures
