use Rattle.std.proofs.Common.{All, subst, sym, ◌∙◌}
use Rattle.std.proofs.lemmas.List.Elements.{All-push}
use Rattle.fact_sets.proofs.SetLaws.{keeps_trans}
use Rattle.chain_sets.proofs.Nesting.{passed_on}
use Rattle.rule_reach.specs.Reach.{run_chains}
use Rattle.rule_reach.specs.Takers.{IsUnmet}
use Rattle.rule_reach.proofs.Made.{all_kept}
use Rattle.rule_reach.proofs.Nesting.{not_deep}
use Rattle.rule_reach.proofs.NotMet.{rule_met, rule_more}
use Rattle.rule_reach.proofs.unmet.unmet_by.Goals as goal
use Rattle.rule_reach.proofs.unmet.unmet_by.Goals.{else-is_unmet, then-is_unmet+in_ok-unmet+in_ok-push}

pub unmet-requires-clause-sets : goal.unmet-requires-clause-sets
unmet-requires-clause-sets c =
    let checked = c.args.checked.now in
    rw (c.plant-network.ensures, c.deref-2.ensures.value, c.in_ok-tables.ensures)
    (all_kept checked.network checked.rules c.args.diagrams.now c.loop-rule.diagrams (run_chains checked.rules) c.args.bases.now
    c.loop-rule.invariant.keeps c.requires.sets)

pub returns-in_err-unmet-clause-keeps : goal.returns-in_err-unmet-clause-keeps
returns-in_err-unmet-clause-keeps c =
    keeps_trans c.args.diagrams.now c.loop-rule.diagrams c.unmet.new.diagrams c.loop-rule.invariant.keeps c.unmet.ensures.keeps

pub returns-in_err-push-clause-keeps : goal.returns-in_err-push-clause-keeps
returns-in_err-push-clause-keeps c =
    keeps_trans c.args.diagrams.now c.loop-rule.diagrams c.unmet.new.diagrams c.loop-rule.invariant.keeps c.unmet.ensures.keeps

pub loop-rule-preserved : goal.loop-rule-preserved
loop-rule-preserved c =
    let checked = c.args.checked.now in
    let list = c.deref-rule-items.result.now in
    let i = c.loop-rule.rule-index in
    let inv = c.loop-rule.invariant in
    let before = rw (← c.deref-rule-items.ensures.value) at inv.rules in
    let P = IsUnmet checked.network checked.rules (run_chains checked.rules) in
    elim c.if-is_unmet.branch [
      | then-is_unmet+in_ok-unmet+in_ok-push w ↦ record {
        keeps = rw w.diagrams-is (keeps_trans c.args.diagrams.now c.loop-rule.diagrams w.unmet.new.diagrams inv.keeps w.unmet.ensures.keeps);
        declared = rw w.lookups-is (rw (c.plant-network.ensures, c.deref-2.ensures.value, c.in_ok-tables.ensures) at w.in_ok-unmet.ensures.declared);
        rules = rw (w.all-is, ← c.deref-rule-items.ensures.value) (rule_more list i _ c.loop-rule.all.items w.push.new.self.items w.in_ok-unmet.field-0
            c.loop-rule-test.true (sym w.if-is_unmet.ensures) w.in_ok-unmet.ensures.rule w.in_ok-push.ensures.items before);
        why = rw w.all-is (subst (All P) (sym w.in_ok-push.ensures.items) (All-push P c.loop-rule.all.items w.in_ok-unmet.field-0 inv.why
            (rw (c.plant-network.ensures, c.deref-2.ensures.value, c.in_ok-tables.ensures) at w.in_ok-unmet.ensures.why)));
      }
      | else-is_unmet w ↦ record {
        keeps = rw w.diagrams-is inv.keeps;
        declared = rw w.lookups-is inv.declared;
        rules = rw (w.all-is, ← c.deref-rule-items.ensures.value) (rule_met list i _ c.loop-rule.all.items c.loop-rule-test.true
            (sym w.if-is_unmet.ensures) before);
        why = rw w.all-is inv.why;
      }
    ]

pub returns-in_err-unmet-clause-never_deep : goal.returns-in_err-unmet-clause-never_deep
returns-in_err-unmet-clause-never_deep c =
    passed_on c.from_residual-in_err-unmet.result _ (λ e is deep. not_deep _ (sym is ∙ deep)) c.from_residual-in_err-unmet.ensures.1
