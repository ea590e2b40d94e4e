use Rattle.std.proofs.Common.{Bool, arith, false, not, refl, subst, sym, true, ◌≡◌}
use Rattle.fact_sets.proofs.SetLaws.{keeps_trans}
use Rattle.rule_reach.specs.Reach.{run_chains}
use Rattle.rule_reach.specs.Takers.{Whether, comes_for, takes}
use Rattle.rule_reach.proofs.Made.{all_kept}
use Rattle.rule_reach.proofs.Taking.{a_taker, none_left, not_a_taker, takers_all}
use Rattle.rule_reach.proofs.takers.Told.takers.Goals as goal
use Rattle.rule_reach.proofs.takers.Told.takers.Goals.{else-at, else-loop-number-test, then-at+in_ok-push}
use Rattle.rule_reach.proofs.takers.Told.takers.Goals.{then-loop-number-test+in_ok-at+then-not-at}

not_true : (x : Bool) → not x ≡ true → x ≡ false
not_true true e = sym e
not_true false e = refl

pub at_rule-requires-clause-sets : goal.at_rule-requires-clause-sets
at_rule-requires-clause-sets c = all_kept c.args.self.network.now c.args.self.tables.now c.args.diagrams.now c.loop-number.diagrams
    (run_chains c.args.self.tables.now) c.args.self.bases.now c.loop-number.invariant.keeps c.requires.sets

pub returns-in_err-at-clause-keeps : goal.returns-in_err-at-clause-keeps
returns-in_err-at-clause-keeps c =
    keeps_trans c.args.diagrams.now c.loop-number.diagrams c.at_rule.new.diagrams c.loop-number.invariant.keeps c.at_rule.ensures.keeps

pub returns-in_err-push-clause-keeps : goal.returns-in_err-push-clause-keeps
returns-in_err-push-clause-keeps c =
    keeps_trans c.args.diagrams.now c.loop-number.diagrams c.at_rule.new.diagrams c.loop-number.invariant.keeps c.at_rule.ensures.keeps

pub loop-number-preserved : goal.loop-number-preserved
loop-number-preserved c =
    let network = c.args.self.network.now in
    let tables = c.args.self.tables.now in
    let bases = run_chains tables in
    let k = c.loop-number.number in
    let so_far = c.loop-number.invariant.takers in
    let test = takes network tables c.args.rule k in
    record {
      keeps = keeps_trans c.args.diagrams.now c.loop-number.diagrams c.at_rule.new.diagrams c.loop-number.invariant.keeps c.at_rule.ensures.keeps;
      within = omega arith;
      takers = elim c.if-at.branch [
        | then-at+in_ok-push w ↦ a_taker network tables bases c.args.rule k c.loop-number.takers.items c.if-at.takers.items c.loop-number.auto.number
            (subst (Whether network tables bases test) w.if-at.true c.in_ok-at.ensures.end) (rw w.takers-is w.in_ok-push.ensures.items) so_far
        | else-at w ↦ rw w.takers-is (not_a_taker network tables bases c.args.rule k c.loop-number.takers.items
            (subst (Whether network tables bases test) w.if-at.false c.in_ok-at.ensures.end) so_far)
      ];
    }

pub returns-clause-keeps : goal.returns-clause-keeps
returns-clause-keeps c = elim c.loop-number-test.branch [
  | else-loop-number-test w ↦ rw w.diagrams-is c.loop-number.invariant.keeps
  | then-loop-number-test+in_ok-at+then-not-at w ↦ rw w.diagrams-is
      (keeps_trans c.args.diagrams.now c.loop-number.diagrams w.at_rule.new.diagrams c.loop-number.invariant.keeps w.at_rule.ensures.keeps)
]

pub returns-clause-takers : goal.returns-clause-takers
returns-clause-takers c =
    let network = c.args.self.network.now in
    let tables = c.args.self.tables.now in
    let bases = run_chains tables in
    let k = c.loop-number.number in
    elim c.loop-number-test.branch [
      | else-loop-number-test w ↦ takers_all network tables bases c.args.rule k c.loop-number.takers.items w.loop-number-test.false
          c.loop-number.invariant.within c.loop-number.invariant.takers
      | then-loop-number-test+in_ok-at+then-not-at w ↦ none_left network tables bases c.args.rule k c.loop-number.takers.items c.loop-number.auto.number
          w.loop-number-test.true
          (subst (Whether network tables bases (comes_for network tables c.args.rule k)) (not_true w.in_ok-at.at.come w.if-not-at.true) w.in_ok-at.ensures.come)
          c.loop-number.invariant.takers
    ]
