use Rattle.rule_names.proofs.Names.{any_of_map, ap, list_any, map, passes, sym, ◌∙◌}
use Rattle.std.proofs.lemmas.List.{take_all}
use Rattle.nft_tree.specs.TreeViews.{pair_tree}
use Rattle.nft_tree.specs.declared.set.Pair.{Pair}
use Rattle.rule_names.specs.Names.{data_target, one_or_none}
use Rattle.rule_names.proofs.Tests.{any-here, any-more, any-picked}
use Rattle.rule_names.proofs.targets.TargetTest.of_pairs.Goals as goal

pub loop-pair-preserved : goal.loop-pair-preserved
loop-pair-preserved c =
    any-more (λ (p : Pair). list_any (passes c.args.self c.args.names.now) (one_or_none (data_target (pair_tree p).value)))
    c.args.pairs.now c.loop-pair.pair-index c.pair-item.result c.loop-pair-test.true c.pair-item.is c.loop-pair.invariant c.if-of_pair.ensures

pub returns-then-of_pair : goal.returns-then-of_pair
returns-then-of_pair c =
    any-here (λ (p : Pair). list_any (passes c.args.self c.args.names.now) (one_or_none (data_target (pair_tree p).value)))
    c.args.pairs.now c.loop-pair.pair-index c.pair-item.result c.loop-pair-test.true c.pair-item.is c.if-of_pair.ensures
    ∙ any_of_map (λ t. list_any (passes c.args.self c.args.names.now) (one_or_none (data_target t.value))) pair_tree c.args.pairs.now
    ∙ any-picked (passes c.args.self c.args.names.now) (λ t. data_target t.value) (map pair_tree c.args.pairs.now)

pub returns : goal.returns
returns c =
    sym c.loop-pair.invariant
    ∙ ap (list_any (λ (p : Pair). list_any (passes c.args.self c.args.names.now) (one_or_none (data_target (pair_tree p).value))))
    (take_all c.loop-pair.pair-index c.args.pairs.now c.loop-pair-test.false)
    ∙ any_of_map (λ t. list_any (passes c.args.self c.args.names.now) (one_or_none (data_target t.value))) pair_tree c.args.pairs.now
    ∙ any-picked (passes c.args.self c.args.names.now) (λ t. data_target t.value) (map pair_tree c.args.pairs.now)
