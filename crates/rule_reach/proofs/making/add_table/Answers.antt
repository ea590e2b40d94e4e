use Rattle.std.proofs.Common.{sym, refl, Bor, ap, arith, drop, filter, length, ◌+◌, ◌∙◌}
use Rattle.std.proofs.lemmas.List.{drop_all, length-map}
use Rattle.nft_tree.specs.declared.chain.Chain.{Chain}
use Rattle.nft_tree.specs.TableItems.{chains_of}
use Rattle.nft_tree.specs.TreeViews.{chain_tree}
use Rattle.rule_meaning.specs.Hooks.{base_chain_of, base_chains_from}
use Rattle.rule_sets.proofs.Deciding.{declared_kept}
use Rattle.coming_sets.specs.Bases.{runs}
use Rattle.chain_ways.proofs.Nesting.{nests_among}
use Rattle.chain_sets.proofs.Nesting.{passed_on}
use Rattle.chain_sets.specs.declared.ways.TheConstants.{LEVELS}
use Rattle.rule_reach.proofs.Nesting.{of_chain}
use Rattle.rule_reach.proofs.AllRules.{chain_at}
use Rattle.rule_reach.proofs.Bases.{chains_left, done_all, done_more}
use Rattle.rule_reach.proofs.making.add_table.Goals as goal

pub loop-index-preserved : goal.loop-index-preserved
loop-index-preserved c =
    let network = c.args.place.setting.network.now in
    let names = c.args.place.setting.names.now in
    let chains = chains_of names in
    let i = c.loop-index.index in
    let chain = chain_tree c.chain-item.result.now in
    let at = chain_at c.chains-chain-items.result.now names i c.chain-item.result c.chains-chain-items.ensures.all c.loop-index-test.true c.chain-item.is in
    let added = rw c.in_ok-to_u32.ensures at c.in_ok-add_chain.ensures.sets in
    record {
      declared = declared_kept network names c.loop-index.lookups c.add_chain.new.lookups c.in_ok-add_chain.ensures.extends
          c.loop-index.invariant.declared;
      limit = c.add_chain.ensures.limit ∙ c.loop-index.invariant.limit;
      sets = λ tables before stands was.
          done_more network tables c.loop-index.diagrams c.add_chain.new.diagrams before (filter runs (base_chains_from c.args.table 0 chains))
          (filter runs (base_chains_from c.args.table i (drop i chains))) (filter runs (base_chain_of c.args.table i chain.head))
          (filter runs (base_chains_from c.args.table (i + 1) (drop (i + 1) chains))) c.loop-index.bases.items c.add_chain.new.bases.items
          (chains_left c.args.table i chains chain at) (λ so_far is. added tables so_far stands is)
          (c.loop-index.invariant.sets tables before stands was);
    }

pub returns-clause-sets : goal.returns-clause-sets
returns-clause-sets c = λ tables before stands was.
    let chains = chains_of c.args.place.setting.names.now in
    let i = c.loop-index.index in
    let long = ap length c.chains-chain-items.ensures.all in
    let same = length-map c.chains-chain-items.result.now (λ (b : Bor Chain). chain_tree b.now) in
    done_all c.args.place.setting.network.now tables c.loop-index.diagrams before (filter runs (base_chains_from c.args.table 0 chains))
    (filter runs (base_chains_from c.args.table i (drop i chains))) c.loop-index.bases.items
    (ap (λ l. filter runs (base_chains_from c.args.table i l)) (drop_all i chains (omega arith)))
    (c.loop-index.invariant.sets tables before stands was)

pub returns-in_err-add_chain-clause-too_deep : goal.returns-in_err-add_chain-clause-too_deep
returns-in_err-add_chain-clause-too_deep c = passed_on c.from_residual-in_err-add_chain.result _ (λ e is deep tables stands.
    let network = c.args.place.setting.network.now in
    let chains = chains_of c.args.place.setting.names.now in
    let i = c.loop-index.index in
    let chain = chain_tree c.chain-item.result.now in
    let at = chain_at c.chains-chain-items.result.now c.args.place.setting.names.now i c.chain-item.result c.chains-chain-items.ensures.all
    c.loop-index-test.true c.chain-item.is in
    nests_among LEVELS network network tables tables (filter runs (base_chain_of c.args.table i chain.head))
    (filter runs (base_chains_from c.args.table 0 chains)) refl refl (λ b. of_chain c.args.table i chains chain b at)
    ((rw c.in_ok-to_u32.ensures at (c.in_err-add_chain.ensures.too_deep (sym is ∙ deep))) tables stands))
    c.from_residual-in_err-add_chain.ensures.1
