use Rattle.std.proofs.Common.{rules, tests, ◌∙◌}
use Rattle.std.proofs.lemmas.Iterator.{YieldsList-from_slice}
use Rattle.std.proofs.lemmas.Iterator.Search.{any_from_yields_List}
use Rattle.list_laws.specs.Lists.{any_of_map}
use Rattle.nft_tree.specs.TreeViews.{statement}
use Rattle.rule_paths.specs.steps.Index.{translates}
use Rattle.rule_paths.proofs.marks.rule_translates.Goals as goal

pub returns : goal.returns
returns c =
    any_from_yields_List (λ x. translates c.args.kind (statement x)) _ _ c.any.result c.any.ensures.ran
    (YieldsList-from_slice c.args.rule.now.statements.items cc) (λ x b q k. search (rules, tests))
    ∙ any_of_map (translates c.args.kind) statement c.args.rule.now.statements.items
