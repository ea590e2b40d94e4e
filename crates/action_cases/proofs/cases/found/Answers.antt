use Rattle.std.proofs.Common.{◌≡◌, ℕ, Bool, drop, sym, arith, ◌+◌, subst, refl}
use Rattle.std.specs.Option.{option_and_then, option_or}
use Rattle.set_intervals.specs.Pairs.{first_value}
use Rattle.rule_meaning.specs.Selectors.{value}
use Rattle.fact_sets.specs.Cases.{AreCases, picked, seen}
use Rattle.fact_sets.proofs.SetLaws.{keeps_trans}
use Rattle.action_cases.proofs.CaseLaws.{are_kept, are_more, case_of, found_end, found_step, next}
use Rattle.action_cases.proofs.cases.found.Goals as goal

pub returns-in_err-set-clause-keeps : goal.returns-in_err-set-clause-keeps
returns-in_err-set-clause-keeps g c =
    keeps_trans c.args.diagrams.now c.loop-range.diagrams c.ranged.new.diagrams c.loop-range.invariant.keeps c.ranged.ensures.keeps

pub returns-in_err-push-clause-keeps : goal.returns-in_err-push-clause-keeps
returns-in_err-push-clause-keeps g c =
    keeps_trans c.args.diagrams.now c.loop-range.diagrams c.ranged.new.diagrams c.loop-range.invariant.keeps c.ranged.ensures.keeps

pub loop-range-preserved : goal.loop-range-preserved
loop-range-preserved g c =
    let v = λ (f : ℕ → Bool). value c.args.selector (seen c.args.reader f) in
    let table = c.args.table.now in
    let i = c.loop-range.range-index in
    let item = c.loop-range-item.result in
    let at = next table i item c.loop-range-test.true c.loop-range-item.is in
    let cs = c.loop-range.cases.items in
    let one = case_of c.in_ok-set.set item.1 in
    let k = c.ranged.ensures.keeps in
    record {
      keeps = keeps_trans c.args.diagrams.now c.loop-range.diagrams c.ranged.new.diagrams c.loop-range.invariant.keeps k;
      are = subst (AreCases c.ranged.new.diagrams) (sym c.in_ok-push.ensures.items) (are_more c.ranged.new.diagrams cs one
          (are_kept c.loop-range.diagrams c.ranged.new.diagrams cs k c.loop-range.invariant.are) c.in_ok-set.ensures.value.is_set);
      same = found_step c.loop-range.diagrams c.ranged.new.diagrams cs c.push.new.self.items one v item (drop (i + 1) table)
          (λ f. option_and_then (first_value table) (v f)) c.in_ok-push.ensures.items refl k c.loop-range.invariant.are c.in_ok-set.ensures.value (λ f.
          subst (λ l. option_or (picked c.loop-range.diagrams cs f) (option_and_then (first_value l) (v f))
          ≡ option_and_then (first_value table) (v f)) at (c.loop-range.invariant.same f));
    }

pub returns-clause-value : goal.returns-clause-value
returns-clause-value g c =
    found_end c.loop-range.diagrams c.loop-range.cases.items (λ f. value c.args.selector (seen c.args.reader f)) c.args.table.now
    c.loop-range.range-index (omega arith) c.loop-range.invariant.are c.loop-range.invariant.same
