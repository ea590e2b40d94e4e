use Rattle.std.proofs.Common.{◌<◌, ◌+◌, length, take, sym, ap, ◌∙◌, subst, arith, rules}
use Rattle.std.specs.List.Sorted.{IsNonDecreasingBy, IsPermutation}
use Rattle.std.proofs.lemmas.List.Sorted.{IsNonDecreasingBy-from_sort_by_key}
use Rattle.std.proofs.lemmas.List.{get_or_default}
use Rattle.std.proofs.lemmas.Result.{err_from_is_err_and}
use Rattle.set_intervals.specs.Pairs.{SameValues}
use Rattle.set_intervals.specs.steps.Pieces.{IsSeparate}
use Rattle.set_intervals.proofs.PairLaws.{clash_of, same_more, adds_take, same_permutation, first_value_holds}
use Rattle.set_intervals.proofs.PieceLaws.{one_answer, no_clash}
use Rattle.set_intervals.proofs.table.Intervals.build.Goals as goal

pub returns-in_err-add-clause-clash : goal.returns-in_err-add-clause-clash
returns-in_err-add-clause-clash g c =
    let p = err_from_is_err_and c.from_residual-in_err-add.result c.from_residual-in_err-add.ensures.1 in
    let xs = c.deref-range-items.result.now in
    let i = c.loop-range.range-index in
    let item = c.loop-range-item.result in
    let moved = subst (λ l. IsPermutation c.in_ok-sorted.sorted.items l) (sym c.deref-range-items.ensures.value) c.sort_unstable_by_key.ensures.permutation in
    rw (p.1, p.2) (λ clash. clash_of _ xs c.args.pairs.now i item.0 item.1 c.loop-range-test.true c.loop-range-item.is
    c.loop-range.invariant.same (subst (λ l. IsPermutation l xs) c.in_ok-sorted.ensures.items moved)
    (c.in_err-add.ensures.clash clash))

pub loop-range-preserved : goal.loop-range-preserved
loop-range-preserved g c =
    let xs = c.deref-range-items.result.now in
    let i = c.loop-range.range-index in
    let item = c.loop-range-item.result in
    let lt : i < length xs = c.loop-range-test.true in
    let rises = subst (IsNonDecreasingBy (λ p. p.0.low)) (sym c.deref-range-items.ensures.value)
    (IsNonDecreasingBy-from_sort_by_key (λ p. p.0.low) _ c.sort_unstable_by_key.ensures.sorted (λ a r q k. search rules)) in
    record {
      table = c.in_ok-add.ensures.table;
      same = same_more _ _ (take i xs) (take (i + 1) xs) item.0 item.1 c.loop-range.invariant.same
          c.in_ok-add.ensures.adds (adds_take xs i item.0 item.1 lt c.loop-range-item.is);
      before = λ d next k e in_new.
          let here = ap (λ p. p.0.low) (c.loop-range-item.is ∙ get_or_default xs i item d lt) in
          omega (arith, c.in_ok-add.ensures.after k e in_new, rises i (i + 1) d (omega arith) next, here);
    }

pub returns-clause-same : goal.returns-clause-same
returns-clause-same g c =
    let pairs = c.args.pairs.now in
    let xs = c.deref-range-items.result.now in
    let moved = subst (λ l. IsPermutation c.in_ok-sorted.sorted.items l) (sym c.deref-range-items.ensures.value) c.sort_unstable_by_key.ensures.permutation in
    subst (λ t. SameValues t pairs) (sym c.in_ok-of.ensures)
    (same_permutation _ xs pairs c.loop-range.range-index c.loop-range-test.false c.loop-range.invariant.same
    (subst (λ l. IsPermutation l xs) c.in_ok-sorted.ensures.items moved))

pub returns-clause-first_values : goal.returns-clause-first_values
returns-clause-first_values g c = λ key.
    let separate = subst IsSeparate (sym c.in_ok-of.ensures) c.loop-range.invariant.table.separate in
    one_answer _ _ separate (returns-clause-same g c) key _ _ (first_value_holds _ key) (first_value_holds _ key)

pub returns-clause-agrees : goal.returns-clause-agrees
returns-clause-agrees g c =
    no_clash _ _ (subst IsSeparate (sym c.in_ok-of.ensures) c.loop-range.invariant.table.separate) (returns-clause-same g c)
