use Rattle.std.proofs.Common.{◌+◌, not, arith}
use Rattle.port_pool.specs.steps.Bits.{bit}
use Rattle.port_pool.specs.steps.First.{is_open}
use Rattle.port_pool.proofs.Spans.{found_up, found_least, is_open-is}
use Rattle.port_pool.proofs.bitmap.first_from.Goals as goal

pub returns-in-Some : goal.returns-in-Some
returns-in-Some c = found_up c.args.span.parity (λ k. not (bit c.args.words.now k))
    (is_open c.args.words.now c.mask-mask.result)
    (is_open-is c.args.words.now c.mask-mask.result c.args.span.parity (λ i. omega (arith, c.type_inv.words i))
    c.mask-mask.ensures) c.args.s c.args.span.low c.args.span.high c.max.result (c.from-end.result + 1) (cc) (cc)
    c.in-Some.found c.in-Some.ensures

pub returns-in-None : goal.returns-in-None
returns-in-None c = found_least c.args.span.parity (λ k. not (bit c.args.words.now k))
    (is_open c.args.words.now c.mask-mask.result)
    (is_open-is c.args.words.now c.mask-mask.result c.args.span.parity (λ i. omega (arith, c.type_inv.words i))
    c.mask-mask.ensures) c.args.s c.args.span.low c.args.span.high c.max.result (c.from-end.result + 1) (cc) (cc)
    c.min.result (cc) c.first_free-in-None.result c.in-None.ensures
    (rw c.from-low.ensures at c.first_free-in-None.ensures)
