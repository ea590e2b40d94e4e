use Rattle.std.proofs.Common.{◌≡◌, ◌||◌, ℕ, Bool, drop, is_some, arith, ◌+◌, List, subst}
use Rattle.packet_sets.specs.Sets.{holds}
use Rattle.set_intervals.specs.declared.range.Range.{Range}
use Rattle.set_intervals.specs.Pairs.{first_value}
use Rattle.rule_meaning.specs.Matches.{tests}
use Rattle.rule_meaning.specs.Selectors.{joined_value}
use Rattle.fact_sets.specs.Cases.{seen}
use Rattle.fact_sets.proofs.SetLaws.{keeps_trans}
use Rattle.action_cases.proofs.CaseLaws.{next, table_end, table_step}
use Rattle.action_cases.proofs.cases.in_table.Goals as goal

pub returns-in_err-one-clause-keeps : goal.returns-in_err-one-clause-keeps
returns-in_err-one-clause-keeps c =
    keeps_trans c.args.diagrams.now c.loop-range.diagrams c.within.new.diagrams c.loop-range.invariant.keeps c.within.ensures.keeps

pub or-requires-clause-left : goal.or-requires-clause-left
or-requires-clause-left c = c.within.ensures.keeps.sets c.loop-range.set c.loop-range.invariant.is_set

pub returns-in_err-set-clause-keeps : goal.returns-in_err-set-clause-keeps
returns-in_err-set-clause-keeps c =
    keeps_trans c.args.diagrams.now c.within.new.diagrams c.or.new.self
    (keeps_trans c.args.diagrams.now c.loop-range.diagrams c.within.new.diagrams c.loop-range.invariant.keeps c.within.ensures.keeps) c.or.ensures.keeps

pub loop-range-preserved : goal.loop-range-preserved
loop-range-preserved c =
    let v = λ (f : ℕ → Bool). joined_value c.args.selectors.now (seen c.args.reader f) in
    let table = c.args.table.now in
    let i = c.loop-range.range-index in
    let at = next table i c.loop-range-item.result c.loop-range-test.true c.loop-range-item.is in
    record {
      keeps = keeps_trans c.args.diagrams.now c.within.new.diagrams c.or.new.self
          (keeps_trans c.args.diagrams.now c.loop-range.diagrams c.within.new.diagrams c.loop-range.invariant.keeps c.within.ensures.keeps)
          c.or.ensures.keeps;
      is_set = c.in_ok-set.ensures.value.is_set;
      same = table_step c.loop-range.diagrams c.within.new.diagrams c.or.new.self c.loop-range.set c.in_ok-one.one c.in_ok-set.set v
          c.loop-range-item.result (drop (i + 1) table) (λ f. tests (v f) (λ n. is_some (first_value table n))) c.within.ensures.keeps
          c.loop-range.invariant.is_set c.in_ok-one.ensures.value c.in_ok-set.ensures.value (λ f.
          subst (λ (l : List (Range × Unit {0})). (holds c.loop-range.diagrams c.loop-range.set f || tests (v f) (λ n. is_some (first_value l n)))
          ≡ tests (v f) (λ n. is_some (first_value table n))) at (c.loop-range.invariant.same f));
    }

pub returns-clause-value : goal.returns-clause-value
returns-clause-value c =
    table_end c.loop-range.diagrams c.loop-range.set (λ f. joined_value c.args.selectors.now (seen c.args.reader f)) c.args.table.now
    c.loop-range.range-index (omega arith) c.loop-range.invariant.is_set c.loop-range.invariant.same
