use Rattle.fault_spans.proofs.Stands.{item_stands, table_there}
use Rattle.fault_spans.proofs.ranges.item_range.Goals as goal

pub returns : goal.returns
returns c tables s less =
    let around = rw c.in-Some.is at (c.in_ok-outer.ensures tables s
    (table_there tables c.args.table c.args.item less)) in
    item_stands c.args.tokens.now tables c.args.table c.args.item c.in-Some.outer (λ v. v.items)
    c.in_ok-items.field-0 c.nth.result around c.in_ok-items.ensures c.nth.ensures less
