-- the rules whose counters are left to put
use Rattle.report.proofs.Imports.{PutsAllBut, chain_tree, drop, map, rule_tree, rules_text, table_tree, ◌+◌}
use Rattle.report.proofs.counter_lines.put_chain.Given as goal

abbrev pub invariant-loop-before : goal.invariant-loop-before
invariant-loop-before g l = PutsAllBut g.W.Write.contents l.initial.page l.initial.writer l.page l.writer
    (rules_text l.tallies (table_tree l.found.table.now) (chain_tree l.found.chain.now) l.table l.chain (l.before + 1)
    (map rule_tree (drop l.before l.found.chain.now.rules.items)))
    (rules_text l.tallies (table_tree l.found.table.now) (chain_tree l.found.chain.now) l.table l.chain 1
    (chain_tree l.found.chain.now).rules)
