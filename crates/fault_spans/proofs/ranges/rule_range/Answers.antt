use Rattle.fault_spans.proofs.Stands.{item_there, rule_stands}
use Rattle.fault_spans.proofs.ranges.rule_range.Goals as goal

pub returns : goal.returns
returns c tables s less =
    let around = rw c.in-Some.is at (c.in_ok-outer.ensures tables s
    (item_there tables c.args.table c.args.item c.args.rule less)) in
    rule_stands c.args.tokens.now tables c.args.table c.args.item c.args.rule c.in-Some.outer (λ v. v.items)
    c.in_ok-rules.field-0 c.nth.result around c.in_ok-rules.ensures c.nth.ensures less
