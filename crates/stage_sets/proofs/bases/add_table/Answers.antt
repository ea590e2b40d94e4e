use Rattle.std.proofs.Common.{Bor, ap, append-nil, append_assoc, arith, drop, filter, length, map, sym, ◌+◌, ◌++◌, ◌∙◌}
use Rattle.std.proofs.lemmas.List.{drop_all, length-map}
use Rattle.nft_tree.specs.declared.chain.Chain.{Chain}
use Rattle.nft_tree.specs.TableItems.{chains_of}
use Rattle.nft_tree.specs.TreeViews.{chain_tree}
use Rattle.rule_meaning.specs.Hooks.{base_chain_of, base_chains_from}
use Rattle.stage_sets.specs.steps.Bases.{base_chain, is_asked}
use Rattle.stage_sets.proofs.InStage.{chain_at, chains_left}
use Rattle.stage_sets.proofs.bases.add_table.Goals as goal

pub loop-index-preserved : goal.loop-index-preserved
loop-index-preserved c =
    let test = is_asked c.args.asked in
    let chains = chains_of c.args.names.now in
    let i = c.loop-index.index in
    let chain = chain_tree c.chain-item.result.now in
    let at = chain_at c.chains-chain-items.result.now c.args.names.now i c.chain-item.result c.chains-chain-items.ensures.all c.loop-index-test.true
    c.chain-item.is in
    let before = map base_chain c.loop-index.bases.items in
    let here = filter test (base_chain_of c.args.table i chain.head) in
    let behind = filter test (base_chains_from c.args.table (i + 1) (drop (i + 1) chains)) in
    ap (λ l. l ++ behind) (rw c.in_ok-to_u32.ensures at c.in_ok-add_chain.ensures) ∙ append_assoc before here behind
    ∙ ap (λ l. before ++ l) (sym (chains_left test c.args.table i chains chain at)) ∙ c.loop-index.invariant

pub returns : goal.returns
returns c =
    let test = is_asked c.args.asked in
    let chains = chains_of c.args.names.now in
    let i = c.loop-index.index in
    let long = ap length c.chains-chain-items.ensures.all in
    let same = length-map c.chains-chain-items.result.now (λ (b : Bor Chain). chain_tree b.now) in
    let before = map base_chain c.loop-index.bases.items in
    sym (append-nil before)
    ∙ ap (λ l. before ++ filter test (base_chains_from c.args.table i l)) (sym (drop_all i chains (omega arith))) ∙ c.loop-index.invariant
