use Rattle.report.proofs.Imports.{arith, slice_get-map, ◌-◌}
use Rattle.nft_tree.proofs.Chains.{mapped_get, numbered_is_get}
use Rattle.nft_tree.specs.TreeViews as tree
use Rattle.report.proofs.names.statement.Goals as goal

pub returns : goal.returns
returns c =
    let found = mapped_get tree.statement _ c.deref.result.now (c.args.number - 1) c.get.result c.get.ensures.lookup.1 c.get.ensures.lookup.3 in
    grind (arith, numbered_is_get, slice_get-map, c.deref.ensures.value, found)
