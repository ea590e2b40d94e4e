use Rattle.node_spans.proofs.Levels.{statements_spelled}
use Rattle.node_spans.proofs.nodes.statements.Goals as goal

pub returns : goal.returns
returns c = λ r s. statements_spelled c.args.tokens.now c.args.range.first c.args.range.end r
    c.in_ok-ranges.field-0.items s c.in_ok-ranges.ensures
