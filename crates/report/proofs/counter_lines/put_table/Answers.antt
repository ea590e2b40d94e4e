use Rattle.report.proofs.Imports.{ap, arith, chains_text, table_tree}
use Rattle.nft_tree.proofs.Chains.{from_one_on}
use Rattle.report.proofs.Putting.{left_as, left_more, left_start}
use Rattle.report.proofs.counter_lines.put_table.Goals.{in-Some, in_default}
use Rattle.report.proofs.counter_lines.put_table.Goals as goal

pub loop-item-init : goal.loop-item-init
loop-item-init g c = record { left = left_start _ _ _; few = omega arith }

pub loop-item-preserved : goal.loop-item-preserved
loop-item-preserved g c =
    let items = c.args.table.now.items.items in
    let text = chains_text c.args.tallies.now (table_tree c.args.table.now) c.args.number c.loop-item.chain_number in
    let h = rw c.deref-item-items.ensures.value at c.loop-item-test.true in
    let is = rw c.deref-item-items.ensures.value at c.item-item.is in
    let on = ap text (from_one_on items c.loop-item.item-index c.item-item.result h is) in
    elim c.match-chain.branch [
      | in-Some w ↦ rw (w.page-is, w.writer-is, w.chain_number-is) (record {
        left = left_more c.loop-item.invariant.left (rw (← w.in-Some.ensures) at on) w.put_chain.ensures;
        few = omega arith;
      })
      | in_default w ↦ rw (w.page-is, w.writer-is, w.chain_number-is) (record {
        left = left_as c.loop-item.invariant.left (rw (← w.in_default.ensures) at on);
        few = omega arith;
      })
    ]
