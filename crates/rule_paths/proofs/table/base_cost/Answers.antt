use Rattle.std.proofs.Common.{◌∙◌, length, get_or, arith, ap, sym}
use Rattle.std.proofs.lemmas.List.{length-map}
use Rattle.nft_tree.specs.TreeViews.{chain_tree}
use Rattle.rule_paths.proofs.ReadLaws.{costs-long, base-more, chain-is}
use Rattle.rule_paths.proofs.table.base_cost.Goals as goal

pub bounds-costs-index : goal.bounds-costs-index
bounds-costs-index c = grind (arith, costs-long, length-map)

pub loop-index-preserved : goal.loop-index-preserved
loop-index-preserved c = λ cost are.
    let h = ap length c.chains-chain-items.ensures.all in
    let k = length-map c.chains-chain-items.result.now (λ c. chain_tree c.now) in
    c.add_base-sum.ensures ∙ base-more c.args.names.now c.args.costs.now c.requires cost are c.loop-index.index
    c.loop-index.sum (chain_tree c.chain-item.result.now) (omega arith)
    (ap (λ xs. get_or xs c.loop-index.index (chain_tree c.chain-item.result.now)) (sym c.chains-chain-items.ensures.all)
    ∙ chain-is c.chains-chain-items.result.now c.loop-index.index c.chain-item.result (omega arith) c.chain-item.is _)
    (c.loop-index.invariant cost are)
