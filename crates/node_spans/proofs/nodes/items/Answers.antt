use Rattle.node_spans.proofs.Levels.{items_spelled}
use Rattle.node_spans.proofs.nodes.items.Goals as goal

pub returns-in_default : goal.returns-in_default
returns-in_default c = λ t s. rw c.in_default.is at (items_spelled (λ x. (x.0, x.1.now)) c.args.tokens.now
    c.args.range.first c.args.range.end t c.table_start.result s c.table_start.ensures)

pub returns : goal.returns
returns c = λ t s.
    let spelled = rw c.in-Some.is at (items_spelled (λ x. (x.0, x.1.now)) c.args.tokens.now
    c.args.range.first c.args.range.end t c.table_start.result s c.table_start.ensures) in
    spelled c.in_ok-ranges.field-0.items c.in_ok-ranges.ensures
