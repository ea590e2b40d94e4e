use Rattle.rule_names.proofs.Names.{ap, inr, map, table_tree, ◌∙◌}
use Rattle.nft_tree.specs.TreeViews.{map_tree}
use Rattle.nft_tree.specs.TableItems.{maps_of}
use Rattle.rule_names.proofs.Items.{maps-repeat}
use Rattle.rule_names.proofs.table.TableNames.maps.Goals as goal

pub returns-clause-all : goal.returns-clause-all
returns-clause-all c = ap (map (λ x. map_tree x.now)) c.deref.ensures.value ∙ c.self.invariant.items.maps ∙ ap maps_of c.self.view_is

pub returns-clause-apart : goal.returns-clause-apart
returns-clause-apart c = rw (← c.self.view_is)
    (λ twice. c.self.invariant.apart (inr (maps-repeat (table_tree c.self.inside.table.now).items twice)))
