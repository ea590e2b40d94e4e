use Rattle.std.proofs.Common.{subst}
use Rattle.std.proofs.lemmas.List.{take_all}
use Rattle.fact_sets.proofs.SetLaws.{keeps_same, keeps_trans}
use Rattle.rule_sets.proofs.Sorting.{are-kept}
use Rattle.ruleset_diff.specs.steps.Pairs.{AreCompared}
use Rattle.ruleset_diff.proofs.Compared.{all_next, all_none, cases_at}
use Rattle.ruleset_diff.proofs.pairs.compare_all.Goals as goal

pub loop-case-init : goal.loop-case-init
loop-case-init c = record {
  keeps = keeps_same c.args.diagrams.now;
  compared = all_none c.args.diagrams.now c.args.stage c.args.new.now c.args.differences.now.items;
}

pub compare-requires-clause-old : goal.compare-requires-clause-old
compare-requires-clause-old c =
    c.loop-case.invariant.keeps.sets _ (cases_at c.args.diagrams.now c.args.old.now c.loop-case.case-index _ c.requires.old c.loop-case-test.true)

pub compare-requires-clause-new : goal.compare-requires-clause-new
compare-requires-clause-new c = are-kept c.args.diagrams.now c.loop-case.diagrams c.args.new.now c.loop-case.invariant.keeps c.requires.new

pub loop-case-preserved : goal.loop-case-preserved
loop-case-preserved c = record {
  keeps = keeps_trans c.args.diagrams.now c.loop-case.diagrams c.compare.new.diagrams c.loop-case.invariant.keeps c.compare.ensures.keeps;
  compared = all_next c.args.diagrams.now c.loop-case.diagrams c.compare.new.diagrams c.loop-case.invariant.keeps c.compare.ensures.keeps c.args.stage
      c.args.old.now c.args.new.now c.requires.old c.requires.new c.loop-case.case-index _ c.loop-case-test.true
      c.args.differences.now.items c.loop-case.differences.items c.compare.new.differences.items c.loop-case.invariant.compared
      c.in_ok-compare.ensures.compared;
}

pub returns-clause-keeps : goal.returns-clause-keeps
returns-clause-keeps c = c.loop-case.invariant.keeps

pub returns-clause-compared : goal.returns-clause-compared
returns-clause-compared c =
    subst (λ l. AreCompared c.loop-case.diagrams c.args.stage l c.args.new.now c.args.differences.now.items c.loop-case.differences.items)
    (take_all c.loop-case.case-index c.args.old.now c.loop-case-test.false) c.loop-case.invariant.compared

pub returns-in_err-compare-clause-keeps : goal.returns-in_err-compare-clause-keeps
returns-in_err-compare-clause-keeps c = keeps_trans c.args.diagrams.now c.loop-case.diagrams c.compare.new.diagrams c.loop-case.invariant.keeps c.compare.ensures.keeps
