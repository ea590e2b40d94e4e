use Rattle.fault_spans.proofs.Stands.{rule_there, statement_stands}
use Rattle.fault_spans.proofs.ranges.statement_range.Goals as goal

pub returns : goal.returns
returns c tables s less =
    let around = rw c.in-Some.is at (c.in_ok-outer.ensures tables s
    (rule_there tables c.args.table c.args.item c.args.rule c.args.statement less)) in
    statement_stands c.args.tokens.now tables c.args.table c.args.item c.args.rule c.args.statement
    c.in-Some.outer (λ v. v.items) c.in_ok-statements.field-0 c.nth.result around c.in_ok-statements.ensures
    c.nth.ensures less
