use Rattle.std.proofs.Common.{get_or}
use Rattle.rule_sets.proofs.Sorting.{keeps_trans}
use Rattle.chain_sets.proofs.Cases.{are-at}
use Rattle.stage_sets.proofs.AcceptedSets.{accepted_more}
use Rattle.stage_sets.proofs.Parts.{any_outcome}
use Rattle.stage_sets.proofs.accepting.accepted_of.Goals as goal

pub with_accepted-requires-clause-case : goal.with_accepted-requires-clause-case
with_accepted-requires-clause-case c =
    let all = c.args.outcomes.now in
    let i = c.loop-case.case-index in
    c.loop-case.invariant.keeps.sets (get_or all i any_outcome).set (are-at c.args.diagrams.now all i any_outcome c.requires c.loop-case-test.true)

pub returns-in_err-set-clause-keeps : goal.returns-in_err-set-clause-keeps
returns-in_err-set-clause-keeps c =
    keeps_trans c.args.diagrams.now c.loop-case.diagrams c.with_accepted.new.diagrams c.loop-case.invariant.keeps c.with_accepted.ensures.keeps

pub loop-case-preserved : goal.loop-case-preserved
loop-case-preserved c =
    let d0 = c.args.diagrams.now in
    let d = c.loop-case.diagrams in
    let e = c.with_accepted.new.diagrams in
    let all = c.args.outcomes.now in
    let i = c.loop-case.case-index in
    record {
      keeps = keeps_trans d0 d e c.loop-case.invariant.keeps c.with_accepted.ensures.keeps;
      means = accepted_more d0 d e all i any_outcome c.loop-case.set c.in_ok-set.set c.loop-case-test.true
          (are-at d0 all i any_outcome c.requires c.loop-case-test.true) c.loop-case.invariant.keeps c.loop-case.invariant.means
          c.in_ok-set.ensures.value;
    }
