use Rattle.std.proofs.Common.{ap, map}
use Rattle.std.specs.Prelude.{flat_map}
use Rattle.std.specs.List.{list_any}
use Rattle.nft_tree.specs.TreeViews.{item_tree}
use Rattle.rule_values.specs.TypedValues.{item_maps}
use Rattle.rule_values.specs.Faults.{map_contradicts}
use Rattle.rule_values.proofs.Tests.{told}
use Rattle.rule_values.proofs.contradictions.TableHasMaps.contradicts.Goals as goal

pub returns : goal.returns
returns c = told c.any_contradicts.result
    (ap (λ xs. list_any (map_contradicts c.args.network.now) (flat_map item_maps (map item_tree xs))) c.deref.ensures.value)
    c.any_contradicts.ensures
