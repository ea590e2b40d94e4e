use Rattle.rule_sets.proofs.Sorting.{are-kept}
use Rattle.fact_sets.proofs.SetLaws.{keeps_trans}
use Rattle.std.proofs.Common.{refl}
use Rattle.ruleset_diff.proofs.pairs.compare.Goals as goal

pub returns-clause-compared : goal.returns-clause-compared
returns-clause-compared c = c.in_ok-try_all.ensures.compared c.args.old c.args.differences.now.items refl c.in_ok-set.ensures.tried

pub returns-in_err-try_all-clause-keeps : goal.returns-in_err-try_all-clause-keeps
returns-in_err-try_all-clause-keeps c = keeps_trans c.args.diagrams.now c.try_hints.new.diagrams c.try_all.new.diagrams c.try_hints.ensures.keeps c.try_all.ensures.keeps

pub returns-clause-keeps : goal.returns-clause-keeps
returns-clause-keeps c = keeps_trans c.args.diagrams.now c.try_hints.new.diagrams c.try_all.new.diagrams c.try_hints.ensures.keeps c.try_all.ensures.keeps

pub try_all-requires-clause-new : goal.try_all-requires-clause-new
try_all-requires-clause-new c = are-kept c.args.diagrams.now c.try_hints.new.diagrams c.args.new.now c.try_hints.ensures.keeps c.requires.new
