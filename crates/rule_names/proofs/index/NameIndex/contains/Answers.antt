use Rattle.rule_names.proofs.Names.{any_of_map, ap, bytes_eq, list_any, ◌∙◌}
use Rattle.rule_names.proofs.index.NameIndex.contains.Goals as goal

pub returns : goal.returns
returns c = c.contains.ensures ∙ any_of_map (bytes_eq c.args.name.now) (λ k. k.items) c.self.inside.names.keys
    ∙ ap (list_any (bytes_eq c.args.name.now)) c.self.view_is
