use Rattle.fault_spans.proofs.Stands.{anonymous_stands, statement_there}
use Rattle.fault_spans.proofs.ranges.anonymous_element_range.Goals as goal

pub returns : goal.returns
returns c tables s less =
    let around = rw c.in-Some.is at (c.in_ok-outer.ensures tables s
    (statement_there tables c.args.table c.args.item c.args.rule c.args.statement c.args.element less)) in
    anonymous_stands c.args.tokens.now tables c.args.table c.args.item c.args.rule c.args.statement c.args.element
    c.in-Some.outer (λ v. v.items) c.in_ok-anonymous_elements.field-0 c.nth.result around
    c.in_ok-anonymous_elements.ensures.of_set c.in_ok-anonymous_elements.ensures.of_map c.nth.ensures less
