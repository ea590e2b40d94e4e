use Rattle.node_spans.proofs.Levels.{tables_spelled}
use Rattle.node_spans.proofs.nodes.tables.Goals as goal

pub returns : goal.returns
returns c = λ tables s. tables_spelled c.args.tokens.now c.ruleset_start-at.result tables
    c.in_ok-ranges.field-0.items s c.ruleset_start-at.ensures.read c.in_ok-ranges.ensures
