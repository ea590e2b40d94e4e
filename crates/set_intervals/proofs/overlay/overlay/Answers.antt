use Rattle.std.proofs.Common.{◌+◌, ◌++◌, ◌∙◌, ap, arith, sym}
use Rattle.std.proofs.lemmas.List.{append-nil, drop_all, get_or_default}
use Rattle.set_intervals.specs.Pairs.{first_value}
use Rattle.set_intervals.proofs.LayerLaws.{laid_more, table_follows, table_none}
use Rattle.set_intervals.proofs.overlay.overlay.Goals as goal

pub loop-range-init : goal.loop-range-init
loop-range-init g c = grind (arith, c.in_ok-pieces.ensures.items, table_none, table_follows, c.args.upper.now, c.requires.upper, c.args.lower.now)

pub loop-range-preserved : goal.loop-range-preserved
loop-range-preserved g c =
    let lower = c.args.lower.now in
    let i = c.loop-range.range-index in
    let item = c.loop-range-item.result in
    record {
      table = c.in_ok-left.ensures.table;
      follows = c.in_ok-left.ensures.follows;
      before = λ d next k e lt.
          let here = ap (λ p. p.0.high) (c.loop-range-item.is ∙ get_or_default lower i item d c.loop-range-test.true) in
          omega (arith, c.in_ok-left.ensures.ends k e lt, c.requires.lower.separate i (i + 1) d (omega arith) next, here);
      first_values = laid_more c.loop-range.pieces.items c.loop-range.left.now c.append_under.new.pieces.items
          c.in_ok-left.left.now lower (c.args.upper.now ++ lower) i item c.loop-range-test.true c.loop-range-item.is
          c.in_ok-left.ensures.first_values c.loop-range.invariant.first_values;
    }

pub append_under-requires-clause-past : goal.append_under-requires-clause-past
append_under-requires-clause-past g c = λ k e lt.
    omega (arith, c.loop-range.invariant.before c.loop-range-item.result c.loop-range-test.true k e lt, ap (λ p. p.0.low) c.loop-range-item.is)

pub returns-clause-first_values : goal.returns-clause-first_values
returns-clause-first_values g c = λ key.
    let left = c.loop-range.left.now in
    let done = ap (λ l. left ++ l) (drop_all c.loop-range.range-index c.args.lower.now c.loop-range-test.false) ∙ append-nil left in
    c.in_ok-append_all.ensures.first_values key
    ∙ ap (λ l. first_value (c.loop-range.pieces.items ++ l) key) (sym done)
    ∙ c.loop-range.invariant.first_values key
