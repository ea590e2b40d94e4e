use Rattle.fault_spans.proofs.Stands.{table_stands}
use Rattle.fault_spans.proofs.ranges.table_range.Goals as goal

pub returns : goal.returns
returns c tables s less =
    table_stands c.args.tokens.now tables c.args.table (λ v. v.items) c.in_ok-tables.field-0 c.nth.result
    (c.in_ok-tables.ensures tables s) c.nth.ensures less
