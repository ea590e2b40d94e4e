use Rattle.rule_names.proofs.Names.{ap, inr, map, table_tree, ◌∙◌}
use Rattle.nft_tree.specs.TreeViews.{set_tree}
use Rattle.nft_tree.specs.TableItems.{sets_of}
use Rattle.rule_names.proofs.Items.{sets-repeat}
use Rattle.rule_names.proofs.table.TableNames.sets.Goals as goal

pub returns-clause-all : goal.returns-clause-all
returns-clause-all c = ap (map (λ x. set_tree x.now)) c.deref.ensures.value ∙ c.self.invariant.items.sets ∙ ap sets_of c.self.view_is

pub returns-clause-apart : goal.returns-clause-apart
returns-clause-apart c = rw (← c.self.view_is)
    (λ twice. c.self.invariant.apart (inr (sets-repeat (table_tree c.self.inside.table.now).items twice)))
