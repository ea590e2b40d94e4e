use Rattle.std.proofs.Common.{sym, ◌∙◌}
use Rattle.nft_tree.specs.TreeViews.{range_tree}
use Rattle.nft_values.specs.steps.Bounds.{bounds_span}
use Rattle.nft_values.proofs.SpanLaws.{range_made}
use Rattle.nft_values.proofs.ranges.numbers_of.Goals as goal

pub returns : goal.returns
returns c = range_made c.args.network.now c.args.kind (range_tree c.args.range.now)
    (bounds_span c.range_bounds-bounds.result) c.new.result (sym c.is_range.ensures ∙ c.if-not-is_range.false)
    (sym c.has_numbers.ensures ∙ c.if-not-has_numbers.false) c.range_bounds-bounds.ensures c.new.ensures
