-- the chains whose counters are left to put
use Rattle.report.proofs.Imports.{PutsAllBut, chains_among, chains_of, chains_text, drop, table_tree, ◌≤◌}
use Rattle.report.proofs.counter_lines.put_table.Given as goal

abbrev pub invariant-loop-item : goal.invariant-loop-item
invariant-loop-item g l = record {
  left : PutsAllBut g.W.Write.contents l.initial.page l.initial.writer l.page l.writer
      (chains_text l.tallies (table_tree l.table) l.number l.chain_number (chains_among (drop l.item-index l.table.items.items)))
      (chains_text l.tallies (table_tree l.table) l.number 0 (chains_of (table_tree l.table)));
  few : l.chain_number ≤ l.item-index;
}
