use Rattle.std.proofs.Common.{ap, arith, length, sym, unwrap_or, [], ◌∙◌, ◌≡◌, ◌≤◌}
use Rattle.std.proofs.lemmas.Bool.{ltb-false}
use Rattle.std.proofs.lemmas.List.{length-map}
use Rattle.std.specs.Option.{option_map}
use denote.Ref.{Bor}
use Rattle.nft_tree.specs.declared.chain.Chain.{Chain}
use Rattle.nft_tree.specs.TableItems.{chains_of}
use Rattle.nft_tree.specs.TreeViews.{chain_tree}
use Rattle.chain_sets.proofs.TableRules.{beyond}
use Rattle.chain_sets.proofs.table.rules_of.Goals as goal

pub returns-in-None : goal.returns-in-None
returns-in-None c =
    let chains = c.chains.result.now in
    let long : length chains ≡ length (chains_of c.args.names.now) =
    sym (length-map chains (λ (b : Bor Chain). chain_tree b.now)) ∙ ap length c.chains.ensures.all in
    let past : length chains ≤ c.args.chain = ltb-false c.args.chain (length chains) (sym c.in-None.ensures.lookup.0) in
    let out : length (chains_of c.args.names.now) ≤ c.args.chain = omega (arith, long, past) in
    ap (λ o. unwrap_or (option_map (λ x. x.rules) o) []) (sym (beyond (chains_of c.args.names.now) c.args.chain out))
