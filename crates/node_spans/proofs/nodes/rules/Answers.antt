use Rattle.std.proofs.Common.{map}
use Rattle.std.specs.Option.{option_map}
use Rattle.nft_tree.specs.TreeViews.{head_tree}
use Rattle.node_spans.proofs.Levels.{rules_spelled}
use Rattle.node_spans.proofs.nodes.rules.Goals as goal

pub returns-in_default : goal.returns-in_default
returns-in_default c = λ t s. rw c.in_default.is at (rules_spelled
    (λ x. (x.name.now, (map (λ n. n.items) x.notes.items, option_map head_tree x.head))) c.args.tokens.now
    c.args.range.first c.args.range.end t c.in_ok-_start.field-0 s c.in_ok-_start.ensures)

pub returns : goal.returns
returns c = λ t s.
    let spelled = rw c.in-Some.is at (rules_spelled
    (λ x. (x.name.now, (map (λ n. n.items) x.notes.items, option_map head_tree x.head))) c.args.tokens.now
    c.args.range.first c.args.range.end t c.in_ok-_start.field-0 s c.in_ok-_start.ensures) in
    spelled c.in_ok-ranges.field-0.items c.in_ok-ranges.ensures
