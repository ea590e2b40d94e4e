-- the statements whose counters are left to put
use Rattle.report.proofs.Imports.{PutsAllBut, chain_tree, drop, map, position_of, rule_tree, statement, statements_text, table_tree, ◌+◌, ◌≤◌}
use Rattle.report.proofs.counter_lines.put_rule.Given as goal

abbrev pub invariant-loop-before : goal.invariant-loop-before
invariant-loop-before g l = record {
  left : PutsAllBut g.W.Write.contents l.initial.page l.initial.writer l.page l.writer
      (statements_text l.tallies (table_tree l.found.table.now) (chain_tree l.found.chain.now)
      (record { rule = (position_of l.first).rule; statement = l.before + 1 }) l.number
      (map statement (drop l.before l.rule.statements.items)))
      (statements_text l.tallies (table_tree l.found.table.now) (chain_tree l.found.chain.now) (position_of l.first) 1
      (rule_tree l.rule).statements);
  few : l.number ≤ l.before + 1;
}
