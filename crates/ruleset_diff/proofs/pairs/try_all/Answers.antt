use Rattle.fact_sets.proofs.SetLaws.{keeps_trans}
use Rattle.rule_sets.proofs.Sorting.{are-kept}
use Rattle.ruleset_diff.proofs.Compared.{compared_all, compared_early, tried_to_more, tried_to_none}
use Rattle.ruleset_diff.proofs.pairs.try_all.Goals as goal

pub loop-index-init : goal.loop-index-init
loop-index-init c = tried_to_none c.args.diagrams.now c.args.stage c.args.left c.args.new.now c.args.differences.now.items c.requires.left

pub is_none-requires : goal.is_none-requires
is_none-requires c = c.loop-index.invariant.is_set

pub try_at-requires-clause-left : goal.try_at-requires-clause-left
try_at-requires-clause-left c = c.loop-index.invariant.is_set

pub try_at-requires-clause-new : goal.try_at-requires-clause-new
try_at-requires-clause-new c = are-kept c.args.diagrams.now c.loop-index.diagrams c.args.new.now c.loop-index.invariant.keeps c.requires.new

pub loop-index-preserved : goal.loop-index-preserved
loop-index-preserved c =
    tried_to_more c.args.diagrams.now c.loop-index.diagrams c.try_at.new.diagrams c.args.stage c.args.left c.args.new.now c.loop-index.index c.loop-index.set
    c.in_ok-rest.rest c.args.differences.now.items c.loop-index.differences.items c.try_at.new.differences.items c.requires.new c.loop-index.invariant
    c.try_at.ensures.keeps c.in_ok-rest.ensures.rest c.in_ok-rest.ensures.tried

pub returns-clause-keeps : goal.returns-clause-keeps
returns-clause-keeps c = c.loop-index.invariant.keeps

pub returns-clause-compared : goal.returns-clause-compared
returns-clause-compared c =
    compared_all c.args.diagrams.now c.loop-index.diagrams c.args.stage c.args.left c.args.new.now c.loop-index.index c.loop-index.set
    c.args.differences.now.items c.loop-index.differences.items c.loop-index-test.false c.loop-index.invariant

pub returns-in_err-rest-clause-keeps : goal.returns-in_err-rest-clause-keeps
returns-in_err-rest-clause-keeps c = keeps_trans c.args.diagrams.now c.loop-index.diagrams c.try_at.new.diagrams c.loop-index.invariant.keeps c.try_at.ensures.keeps

pub returns-in_err-tried-clause-keeps : goal.returns-in_err-tried-clause-keeps
returns-in_err-tried-clause-keeps c = keeps_trans c.args.diagrams.now c.loop-index.diagrams c.try_at.new.diagrams c.loop-index.invariant.keeps c.try_at.ensures.keeps

pub returns-then-is_none-clause-compared : goal.returns-then-is_none-clause-compared
returns-then-is_none-clause-compared c =
    compared_early c.args.diagrams.now c.loop-index.diagrams c.args.stage c.args.left c.args.new.now c.loop-index.index c.loop-index.set
    c.args.differences.now.items c.loop-index.differences.items c.loop-index.invariant c.if-is_none.ensures.none
