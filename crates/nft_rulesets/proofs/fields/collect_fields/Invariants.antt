use Rattle.std.proofs.Common.{◌≡◌, map}
use Rattle.std.specs.Vec.Iter.{into_iter_items}
use Rattle.nft_rulesets.specs.Sets.{collect_fields, with_fields}
use Rattle.nft_rulesets.specs.steps.Views.{field_tree, fields_tree}
use Rattle.nft_rulesets.proofs.fields.collect_fields.Given as goal

abbrev pub invariant-loop-field : goal.invariant-loop-field
invariant-loop-field g l =
    let trees = map (field_tree g.K.Production.tree g.E.Production.tree) in
    with_fields (trees (into_iter_items l.field-iterator))
    (fields_tree g.K.Production.tree g.E.Production.tree l.all)
    ≡ collect_fields (trees (into_iter_items l.initial.field-iterator))
