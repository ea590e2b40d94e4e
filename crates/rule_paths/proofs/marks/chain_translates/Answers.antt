use Rattle.std.proofs.Common.{rules, tests, ◌∙◌, map}
use Rattle.std.specs.List.{list_any}
use Rattle.std.proofs.lemmas.Iterator.{YieldsList-from_slice}
use Rattle.std.proofs.lemmas.Iterator.Search.{any_from_yields_List}
use Rattle.list_laws.specs.Lists.{any_of_map}
use Rattle.nft_tree.specs.Tree.{RuleTree}
use Rattle.nft_tree.specs.TreeViews.{rule_tree}
use Rattle.rule_names.proofs.Tests.{any-flat}
use Rattle.rule_paths.specs.steps.Index.{translates}
use Rattle.rule_paths.proofs.marks.chain_translates.Goals as goal

pub returns : goal.returns
returns c =
    any_from_yields_List (λ x. list_any (translates c.args.kind) (rule_tree x).statements) _ _ c.any.result c.any.ensures.ran
    (YieldsList-from_slice c.args.chain.now.rules.items cc) (λ x b q k. search (rules, tests))
    ∙ any_of_map (λ t. list_any (translates c.args.kind) t.statements) rule_tree c.args.chain.now.rules.items
    ∙ any-flat (translates c.args.kind) (λ (r : RuleTree). r.statements) (map rule_tree c.args.chain.now.rules.items)
