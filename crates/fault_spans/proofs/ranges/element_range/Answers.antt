use Rattle.fault_spans.proofs.Stands.{container_there, element_stands}
use Rattle.fault_spans.proofs.ranges.element_range.Goals as goal

pub returns : goal.returns
returns c tables s less =
    let around = rw c.in-Some.is at (c.in_ok-outer.ensures tables s
    (container_there tables c.args.table c.args.item c.args.element less)) in
    element_stands c.args.tokens.now tables c.args.table c.args.item c.args.element c.in-Some.outer (λ v. v.items)
    c.in_ok-elements.field-0 c.nth.result around c.in_ok-elements.ensures.of_set c.in_ok-elements.ensures.of_map
    c.nth.ensures less
