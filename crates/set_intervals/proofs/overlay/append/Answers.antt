use Rattle.std.proofs.Common.{◌+◌, ◌-◌, ◌<◌, refl, sym, ap, ◌∙◌, subst, arith}
use Rattle.std.proofs.lemmas.Bool.{iff_false}
use Rattle.std.proofs.lemmas.List.Elements.{All-set}
use Rattle.set_intervals.specs.steps.Pieces.{IsTable}
use Rattle.set_intervals.proofs.PieceLaws.{last_is, table_widen}
use Rattle.set_intervals.proofs.LayerLaws.{merged_last, table_past}
use Rattle.set_intervals.proofs.overlay.append.Goals as goal
use Rattle.set_intervals.proofs.overlay.append.Goals.{then-len-gt0+else-continues, else-len-gt0}

pub returns-then-continues-clause-first_values : goal.returns-then-continues-clause-first_values
returns-then-continues-clause-first_values g c =
    let joins = c.continues.ensures.0 c.if-continues.true in
    merged_last c.args.pieces.now.items (c.len-len.result - 1) c.index-last.result.now c.args.range c.merged.result
    c.args.value (omega arith) c.index-last.ensures joins.1 joins.0 c.merged.ensures.low c.merged.ensures.high

pub returns-clause-table : goal.returns-clause-table
returns-clause-table g c =
    let xs = c.args.pieces.now.items in
    subst IsTable (sym c.in_ok-push.ensures.items) (table_past xs (c.args.range, c.args.value) c.requires.table c.requires.past (λ i d end touch same.
    elim c.if-len-gt0.branch [
      | then-len-gt0+else-continues w ↦
          let is = last_is xs c.len-len.result i d w.index-last.result.now (omega arith) end w.index-last.ensures in
          iff_false w.continues.ensures w.if-continues.false (ap (λ p. p.0.high + 1) (sym is) ∙ touch, ap (λ p. p.1) (sym is) ∙ same)
      | else-len-gt0 w ↦ absurd (omega arith)
    ]))

pub returns-then-continues-clause-ends : goal.returns-then-continues-clause-ends
returns-then-continues-clause-ends g c =
    All-set (λ p. p.0.high < c.args.range.high + 1) c.args.pieces.now.items (c.len-len.result - 1)
    (c.merged.result, c.index-last.result.now.1)
    (omega (arith, c.merged.ensures.high, (c.continues.ensures.0 c.if-continues.true).0, c.args.range.ordered))
    (λ k d lt. omega (arith, c.requires.past k d lt, c.args.range.ordered))

pub returns-then-continues-clause-table : goal.returns-then-continues-clause-table
returns-then-continues-clause-table g c =
    table_widen c.args.pieces.now.items (c.len-len.result - 1) c.index-last.result.now (c.merged.result, c.index-last.result.now.1)
    (omega arith) c.index-last.ensures c.merged.ensures.low refl c.requires.table
