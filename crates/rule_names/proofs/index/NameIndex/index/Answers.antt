use Rattle.rule_names.proofs.Names.{ap, ◌∙◌}
use Rattle.rule_names.specs.Names.{index_in}
use Rattle.rule_names.proofs.IndexLookup.{position-index}
use Rattle.rule_names.proofs.index.NameIndex.index.Goals as goal

pub returns : goal.returns
returns c = c.get_index_of.ensures.index ∙ position-index c.args.name.now c.self.inside.names.keys ∙ ap (index_in c.args.name.now) c.self.view_is
