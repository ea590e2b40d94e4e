use Rattle.std.proofs.Common.{sym, ap, map, ◌∙◌}
use Rattle.std.specs.List.{list_any}
use Rattle.nft_tree.specs.TreeViews.{table_tree}
use Rattle.rule_values.specs.TypedValues.{maps_in}
use Rattle.rule_values.specs.Faults.{has_contradiction, map_contradicts}
use Rattle.rule_values.proofs.Tests.{any_flat, told}
use Rattle.rule_values.proofs.has_contradiction.Goals as goal

pub returns : goal.returns
returns c = told c.any_contradicts.result
    (sym (any_flat (map_contradicts c.args.network.now) maps_in (map table_tree c.deref.result.now))
    ∙ ap (λ ts. list_any (has_contradiction c.args.network.now) (map table_tree ts)) c.deref.ensures.value)
    c.any_contradicts.ensures
