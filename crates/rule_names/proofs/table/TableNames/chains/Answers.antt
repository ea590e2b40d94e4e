use Rattle.rule_names.proofs.Names.{ap, map, ◌∙◌}
use Rattle.nft_tree.specs.TreeViews.{chain_tree}
use Rattle.nft_tree.specs.TableItems.{chains_of}
use Rattle.rule_names.proofs.table.TableNames.chains.Goals as goal

pub returns-clause-all : goal.returns-clause-all
returns-clause-all c = ap (map (λ x. chain_tree x.now)) c.deref.ensures.value ∙ c.self.invariant.items.chains ∙ ap chains_of c.self.view_is
