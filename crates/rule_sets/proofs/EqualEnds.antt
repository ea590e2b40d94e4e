-- What `==` finds equal is the same.
use Rattle.std.proofs.Common.{◌≡◌, ◌∙◌, Bool, true, false, Option, Some, None, refl, ap, arith}
use Rattle.std.proofs.lemmas.Bool.{and_parts}
use Rattle.rule_meaning.specs.declared.event.RuleVerdict.{RuleVerdict}
use Rattle.rule_meaning.specs.declared.event.NatAction.{NatAction}
use Rattle.rule_meaning.specs.declared.event.PortInterval.{PortInterval}
use Rattle.rule_meaning.specs.contracts.event.RuleVerdictPartialEq.TheImpl as verdict_test
use Rattle.rule_meaning.specs.contracts.event.NatActionPartialEq.TheImpl as action_test
use Rattle.rule_meaning.specs.contracts.event.PortIntervalPartialEq.TheImpl as ports_test
use Rattle.fact_sets.specs.declared.written.MarkSource.{MarkSource}
use Rattle.fact_sets.specs.declared.written.Written.{Written}
use Rattle.fact_sets.specs.contracts.written.MarkSourcePartialEq.TheImpl as mark_test
use Rattle.fact_sets.specs.contracts.written.WrittenPartialEq.TheImpl as written_test
use Rattle.rule_sets.specs.declared.ends.End.{End}
use Rattle.rule_sets.specs.contracts.ends.EndPartialEq.TheImpl as end_test

pub same_mark : (x y : MarkSource) → mark_test.eq-value.it x y ≡ true → x ≡ y
same_mark = grind arith

pub same_written : (x y : Written) → written_test.eq-value.it x y ≡ true → x ≡ y
same_written = grind (arith, same_mark)

pub same_ports : (x y : PortInterval) → ports_test.eq-value.it x y ≡ true → x ≡ y
same_ports = grind arith

pub same_action : (x y : NatAction) → action_test.eq-value.it x y ≡ true → x ≡ y
same_action = grind (arith, same_ports)

pub same_verdict : (x y : RuleVerdict) → verdict_test.eq-value.it x y ≡ true → x ≡ y
same_verdict = grind (arith, same_action)

refused : false ≡ true → ⊥
refused h = cc

abbrev end_with : Written → Option RuleVerdict → Bool → End
end_with w verdict met = record { written = w; verdict = verdict; met = met }

joined : (w v : Written) (a b : Option RuleVerdict) (m n : Bool) → w ≡ v → a ≡ b → m ≡ n → end_with w a m ≡ end_with v b n
joined w v a b m n x y z = ap (λ o. end_with o a m) x ∙ ap (λ o. end_with v o m) y ∙ ap (end_with v b) z

by_parts : (w v : Written) (a b : Option RuleVerdict) (m n : Bool) → end_test.eq-value.it (end_with w a m) (end_with v b n) ≡ true
    → end_with w a m ≡ end_with v b n
by_parts w v None None m n is =
    let all = and_parts (written_test.eq-value.it w v) _ is in
    let e : m ≡ n = grind (arith, all.1) in
    joined w v None None m n (same_written w v all.0) refl e
by_parts w v (Some a) (Some b) m n is =
    let all = and_parts (written_test.eq-value.it w v) _ is in
    let others = and_parts (verdict_test.eq-value.it a b) _ all.1 in
    let e : m ≡ n = grind (arith, others.1) in
    joined w v (Some a) (Some b) m n (same_written w v all.0) (ap Some (same_verdict a b others.0)) e
by_parts w v None (Some b) m n is = absurd (refused (and_parts (written_test.eq-value.it w v) _ is).1)
by_parts w v (Some a) None m n is = absurd (refused (and_parts (written_test.eq-value.it w v) _ is).1)

pub same_end : (x y : End) → end_test.eq-value.it x y ≡ true → x ≡ y
same_end x y is = by_parts x.written y.written x.verdict y.verdict x.met y.met is
