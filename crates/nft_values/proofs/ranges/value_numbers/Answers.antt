use Rattle.std.proofs.Common.{sym, ◌∙◌}
use Rattle.nft_tree.specs.Tree as tree
use Rattle.nft_tree.specs.TreeViews.{value_tree}
use Rattle.nft_values.specs.steps.Bounds.{bounds_span}
use Rattle.nft_values.proofs.SpanLaws.{range_made}
use Rattle.nft_values.proofs.ranges.value_numbers.Goals as goal

pub returns-clause-numbers : goal.returns-clause-numbers
returns-clause-numbers c = range_made c.args.network.now c.args.kind (tree.one (value_tree c.args.value.now))
    (bounds_span c.value_bounds-bounds.result) c.new.result (sym c.is_value.ensures ∙ c.if-not-is_value.false)
    (sym c.has_number.ensures ∙ c.if-not-has_number.false) c.value_bounds-bounds.ensures.span c.new.ensures
