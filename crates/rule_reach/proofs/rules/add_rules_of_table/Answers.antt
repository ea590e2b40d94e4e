use Rattle.std.proofs.Common.{Bor, ap, arith, append-nil, length}
use Rattle.std.proofs.lemmas.List.{drop_all, length-map}
use Rattle.nft_tree.specs.declared.chain.Chain.{Chain}
use Rattle.nft_tree.specs.TableItems.{chains_of}
use Rattle.nft_tree.specs.TreeViews.{chain_tree}
use Rattle.rule_reach.proofs.AllRules.{chain_at, chain_more}
use Rattle.rule_reach.proofs.rules.add_rules_of_table.Goals as goal

pub loop-place-preserved : goal.loop-place-preserved
loop-place-preserved c =
    chain_more c.args.table (chains_of c.args.names.now) c.loop-place.place c.in_ok-to_u32.field-0 (chain_tree c.chain-item.result.now)
    c.loop-place.rules.items c.add_rules_of_chain.new.rules.items _
    (chain_at c.chains-chain-items.result.now c.args.names.now c.loop-place.place c.chain-item.result c.chains-chain-items.ensures.all
    c.loop-place-test.true c.chain-item.is) c.in_ok-to_u32.ensures c.in_ok-add_rules_of_chain.ensures c.loop-place.invariant

pub returns : goal.returns
returns c =
    let long = ap length c.chains-chain-items.ensures.all in
    let same = length-map c.chains-chain-items.result.now (λ (b : Bor Chain). chain_tree b.now) in
    rw (drop_all c.loop-place.place (chains_of c.args.names.now) (omega arith), append-nil) at c.loop-place.invariant
