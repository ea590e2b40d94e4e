use Rattle.port_pool.specs.declared.span.Parity.TheVariants.{All}
use Rattle.port_pool.proofs.Spans.{preferred_same, preferred_parity, preferred_all}
use Rattle.port_pool.proofs.span.preferred_span.Goals as goal

pub returns-then-has_parity : goal.returns-then-has_parity
returns-then-has_parity c = preferred_same c.args.s c.args.low c.args.high c.class_part-part.result.0
    c.class_part-part.result.1 c.like-parity.result c.class_part-part.ensures c.if-has_parity.ensures.some
    c.like-parity.ensures

pub returns-then-has_parity-2 : goal.returns-then-has_parity-2
returns-then-has_parity-2 c = preferred_parity c.args.s c.args.low c.args.high c.class_part-part.result.0
    c.class_part-part.result.1 c.like-parity.result c.class_part-part.ensures c.if-has_parity.ensures.none
    c.if-has_parity-2.ensures.some c.like-parity.ensures

pub returns-else-has_parity-2 : goal.returns-else-has_parity-2
returns-else-has_parity-2 c = preferred_all c.args.s c.args.low c.args.high c.class_part-part.result.0
    c.class_part-part.result.1 All c.class_part-part.ensures c.if-has_parity.ensures.none c.if-has_parity-2.ensures.none
