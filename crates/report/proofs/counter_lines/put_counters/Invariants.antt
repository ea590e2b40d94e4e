-- the tables whose counters are left to put
use Rattle.report.proofs.Imports.{PutsAllBut, drop, map, table_tree, tables_of, tables_text}
use Rattle.report.proofs.counter_lines.put_counters.Given as goal

abbrev pub invariant-loop-number : goal.invariant-loop-number
invariant-loop-number g l = PutsAllBut g.W.Write.contents l.initial.page l.initial.writer l.page l.writer
    (tables_text l.tallies l.number (map table_tree (drop l.number l.rules.tables.items)))
    (tables_text l.tallies 0 (tables_of l.rules))
