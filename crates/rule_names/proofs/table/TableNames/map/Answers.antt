use Rattle.rule_names.proofs.Names.{ap, ap₂, option_map, ◌∙◌}
use Rattle.nft_tree.specs.TreeViews.{map_tree}
use Rattle.rule_names.specs.Names.{map_named}
use Rattle.rule_names.specs.steps.Index.{at_index}
use Rattle.rule_names.proofs.IndexLookup.{looked}
use Rattle.rule_names.proofs.table.TableNames.map.Goals as goal

pub returns : goal.returns
returns c =
    ap (option_map (λ x. map_tree x.now)) (c.at.ensures ∙ ap₂ at_index c.deref.ensures.value c.index.ensures)
    ∙ looked (λ x. x.name) c.args.name.now (λ x. map_tree x.now) _ _ _ c.self.invariant.items.maps (ap (λ n. n.maps) c.self.invariant.named)
    ∙ ap (λ t. map_named t c.args.name.now) c.self.view_is
