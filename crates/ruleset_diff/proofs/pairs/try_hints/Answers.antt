use Rattle.fact_sets.proofs.SetLaws.{keeps_same, keeps_trans}
use Rattle.rule_sets.proofs.Sorting.{are-kept}
use Rattle.ruleset_diff.proofs.Compared.{tried_none}
use Rattle.std.proofs.Common.{refl}
use Rattle.ruleset_diff.proofs.pairs.try_hints.Goals as goal

pub loop-index-init : goal.loop-index-init
loop-index-init c = record {
  keeps = keeps_same c.args.diagrams.now;
  tried = tried_none c.args.diagrams.now c.args.stage c.args.old c.args.new.now c.args.differences.now.items c.requires.old;
}

pub is_none-requires : goal.is_none-requires
is_none-requires c = c.loop-index.invariant.tried.left_set

pub try_at-requires-clause-left : goal.try_at-requires-clause-left
try_at-requires-clause-left c = c.loop-index.invariant.tried.left_set

pub try_at-requires-clause-new : goal.try_at-requires-clause-new
try_at-requires-clause-new c = are-kept c.args.diagrams.now c.loop-index.diagrams c.args.new.now c.loop-index.invariant.keeps c.requires.new

pub loop-index-preserved : goal.loop-index-preserved
loop-index-preserved c = record {
  keeps = keeps_trans c.args.diagrams.now c.loop-index.diagrams c.try_at.new.diagrams c.loop-index.invariant.keeps c.try_at.ensures.keeps;
  tried = c.in_ok-rest.ensures.tried c.args.old c.args.differences.now.items refl c.loop-index.invariant.tried;
}

pub returns-in_err-rest-clause-keeps : goal.returns-in_err-rest-clause-keeps
returns-in_err-rest-clause-keeps c = keeps_trans c.args.diagrams.now c.loop-index.diagrams c.try_at.new.diagrams c.loop-index.invariant.keeps c.try_at.ensures.keeps

pub returns-in_err-tried-clause-keeps : goal.returns-in_err-tried-clause-keeps
returns-in_err-tried-clause-keeps c = keeps_trans c.args.diagrams.now c.loop-index.diagrams c.try_at.new.diagrams c.loop-index.invariant.keeps c.try_at.ensures.keeps
