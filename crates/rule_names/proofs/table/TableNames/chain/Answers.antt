use Rattle.rule_names.proofs.Names.{ap, ap₂, option_map, ◌∙◌}
use Rattle.nft_tree.specs.TreeViews.{chain_tree}
use Rattle.rule_names.specs.Names.{chain_named}
use Rattle.rule_names.specs.steps.Index.{at_index}
use Rattle.rule_names.proofs.IndexLookup.{looked}
use Rattle.rule_names.proofs.table.TableNames.chain.Goals as goal

pub returns-clause-found : goal.returns-clause-found
returns-clause-found c =
    ap (option_map (λ x. chain_tree x.now)) (c.at.ensures ∙ ap₂ at_index c.deref.ensures.value c.index.ensures)
    ∙ looked (λ x. x.name) c.args.name.now (λ x. chain_tree x.now) _ _ _ c.self.invariant.items.chains (ap (λ n. n.chains) c.self.invariant.named)
    ∙ ap (λ t. chain_named t c.args.name.now) c.self.view_is
