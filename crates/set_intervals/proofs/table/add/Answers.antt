use Rattle.std.proofs.Common.{◌≤◌, ◌<◌, ◌-◌, length, refl, sym, ap, subst, arith}
use Rattle.set_intervals.specs.steps.Pieces.{Adds, IsTable}
use Rattle.set_intervals.proofs.PairLaws.{holds_read, adds_widen, adds_push, covers_split, covers_merge}
use Rattle.set_intervals.proofs.PieceLaws.{table_push, table_widen, starts_widen}
use Rattle.set_intervals.proofs.table.add.Goals as goal

pub returns-in-Clashes-clause-clash : goal.returns-in-Clashes-clause-clash
returns-in-Clashes-clause-clash g c = λ _.
    let xs = c.args.pieces.now.items in
    let last = c.index-last.result.now in
    let lt : c.len-len.result - 1 < length xs = omega arith in
    let before = c.requires.after (c.len-len.result - 1) last lt in
    record {
      key = c.args.range.low;
      other = last.1;
      within = record { above = omega arith; below = c.args.range.ordered };
      has_other = holds_read xs (c.len-len.result - 1) last c.args.range.low lt c.index-last.ensures
          (record { above = omega (arith, before, ap (λ p. p.0.low) c.index-last.ensures); below = c.in-Clashes.ensures.0 });
      differ = c.in-Clashes.ensures.1;
    }

pub returns-in_ok-push-in-Disjoint-clause-table : goal.returns-in_ok-push-in-Disjoint-clause-table
returns-in_ok-push-in-Disjoint-clause-table g c =
    subst IsTable (sym c.in_ok-push-in-Disjoint.ensures.items)
    (table_push c.args.pieces.now.items c.len-len.result c.index-last.result.now (c.args.range, c.args.value)
    c.requires.table (omega arith) c.index-last.ensures c.in-Disjoint.ensures)

pub returns-in_ok-push-in-Disjoint-clause-after : goal.returns-in_ok-push-in-Disjoint-clause-after
returns-in_ok-push-in-Disjoint-clause-after g c = grind arith

pub returns-in_ok-push-in-Disjoint-clause-adds : goal.returns-in_ok-push-in-Disjoint-clause-adds
returns-in_ok-push-in-Disjoint-clause-adds g c =
    subst (λ l. Adds c.args.pieces.now.items c.args.range c.args.value l) (sym c.in_ok-push-in-Disjoint.ensures.items) (adds_push _ _ _)

pub returns-in-Mergeable-clause-table : goal.returns-in-Mergeable-clause-table
returns-in-Mergeable-clause-table g c =
    let last = c.index-last.result.now in
    table_widen c.args.pieces.now.items (c.len-len.result - 1) last (c.merged.result, last.1) (omega arith) c.index-last.ensures
    c.merged.ensures.low refl c.requires.table

pub returns-in-Mergeable-clause-after : goal.returns-in-Mergeable-clause-after
returns-in-Mergeable-clause-after g c =
    let last = c.index-last.result.now in
    let lt : c.len-len.result - 1 < length c.args.pieces.now.items = omega arith in
    starts_widen c.args.pieces.now.items (c.len-len.result - 1) last (c.merged.result, last.1) c.args.range.low lt
    c.index-last.ensures c.merged.ensures.low c.requires.after

pub returns-in-Mergeable-clause-adds : goal.returns-in-Mergeable-clause-adds
returns-in-Mergeable-clause-adds g c =
    let xs = c.args.pieces.now.items in
    let last = c.index-last.result.now in
    let lt : c.len-len.result - 1 < length xs = omega arith in
    let rising : last.0.low ≤ c.args.range.low = omega (arith, c.requires.after (c.len-len.result - 1) last lt, ap (λ p. p.0.low) c.index-last.ensures) in
    adds_widen xs (c.len-len.result - 1) last c.merged.result c.args.range c.args.value (omega arith) c.index-last.ensures c.in-Mergeable.ensures.1
    (covers_split last.0 c.args.range c.merged.result c.in-Mergeable.ensures.0 c.merged.ensures.low c.merged.ensures.high)
    (covers_merge last.0 c.args.range c.merged.result rising c.merged.ensures.low c.merged.ensures.high)
