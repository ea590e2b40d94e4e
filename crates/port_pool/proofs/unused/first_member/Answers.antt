use Rattle.std.proofs.Common.{◌+◌, true}
use Rattle.port_pool.specs.steps.Spans.{matches_parity}
use Rattle.port_pool.proofs.Spans.{found_up, found_least, passes_all}
use Rattle.port_pool.proofs.unused.first_member.Goals as goal

pub returns-in-Some : goal.returns-in-Some
returns-in-Some c = found_up c.args.span.parity (λ k. true) (matches_parity c.args.span.parity)
    (λ k. passes_all (matches_parity c.args.span.parity k)) c.args.s c.args.span.low c.args.span.high c.max.result
    (c.from-end.result + 1) (cc) (cc) c.in-Some.found c.in-Some.ensures

pub returns-in-None : goal.returns-in-None
returns-in-None c = found_least c.args.span.parity (λ k. true) (matches_parity c.args.span.parity)
    (λ k. passes_all (matches_parity c.args.span.parity k)) c.args.s c.args.span.low c.args.span.high c.max.result
    (c.from-end.result + 1) (cc) (cc) c.min.result (cc) c.first_within-in-None.result c.in-None.ensures
    (rw c.from-low.ensures at c.first_within-in-None.ensures)
