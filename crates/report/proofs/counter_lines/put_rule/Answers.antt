use Rattle.report.proofs.Imports.{StatementPosition, ap, arith, chain_tree, is_some, position_of, sym, table_tree, ◌+◌, ◌∙◌}
use Rattle.report.proofs.Putting.{left_as, left_more, left_start}
use Rattle.report.proofs.Listing.{statements_on}
use Rattle.report.proofs.counter_lines.put_rule.Goals.{else-is_some, then-is_some}
use Rattle.report.proofs.counter_lines.put_rule.Goals as goal

pub loop-before-init : goal.loop-before-init
loop-before-init g c = record { left = rw c.requires (left_start _ _ _); few = omega arith }

pub loop-before-preserved : goal.loop-before-preserved
loop-before-preserved g c =
    let i = c.loop-before.before in
    let pos : StatementPosition = record { rule = (position_of c.args.first).rule; statement = i + 1 } in
    let on = statements_on c.args.tallies.now (table_tree c.args.found.table.now) (chain_tree c.args.found.chain.now) pos c.loop-before.number
    c.args.rule.now.statements.items i c.statement-item.result c.is_some.result (rw c.deref-statement-items.ensures.value at c.loop-before-test.true)
    (rw c.deref-statement-items.ensures.value at c.statement-item.is) (ap is_some (sym c.counter.ensures) ∙ sym c.is_some.ensures) in
    elim c.if-is_some.branch [
      | then-is_some w ↦ rw (w.page-is, w.writer-is, w.number-is) (record {
        left = left_more c.loop-before.invariant.left (rw w.if-is_some.true at on) w.put_counter.ensures;
        few = omega arith;
      })
      | else-is_some w ↦ rw (w.page-is, w.writer-is, w.number-is) (record {
        left = left_as c.loop-before.invariant.left (rw w.if-is_some.false at on);
        few = omega arith;
      })
    ]
