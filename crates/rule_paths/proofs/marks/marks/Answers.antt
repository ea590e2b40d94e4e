use Rattle.std.proofs.Common.{◌≡◌, Some, length, map, vec_len, refl, arith, ap, ◌∙◌}
use Rattle.std.proofs.lemmas.List.{take_all, length-map}
use Rattle.nft_tree.specs.Tree.{ChainTree}
use Rattle.nft_tree.specs.TreeViews.{chain_tree}
use Rattle.nft_tree.specs.TableItems.{chains_of}
use Rattle.rule_paths.specs.Paths.{chain_has}
use Rattle.rule_paths.specs.steps.Index.{translates}
use Rattle.rule_paths.proofs.marks.marks.Goals as goal

pub returns : goal.returns
returns c =
    let has = λ (t : ChainTree). chain_has (translates c.args.kind) (Some t) in
    let chains = c.chains-chains.result.now in
    let all : c.loop-chain.marks.items ≡ map has (chains_of c.args.names.now) =
    c.loop-chain.invariant ∙ ap (λ cs. map has (map (λ t. chain_tree t.now) cs)) (take_all c.loop-chain.chain-index chains (omega arith))
    ∙ ap (map has) c.chains-chains.ensures.all in
    let ok = c.loop-chain.marks.ok in
    let long : length c.loop-chain.marks.items ≡ length (chains_of c.args.names.now) = ap length all ∙ length-map (chains_of c.args.names.now) has in
    let n : vec_len c.loop-chain.marks ≡ length (chains_of c.args.names.now) = omega arith in
    rw (c.in_ok-resize.ensures.items, take_all c.args.nodes c.loop-chain.marks.items (omega arith), n, all) refl
