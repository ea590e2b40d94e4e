use Rattle.rule_names.proofs.Names.{length, map, table_tree, take, ◌≡◌}
use Rattle.std.proofs.Common.{vec_capacity, vec_len, ◌≤◌}
use Rattle.rule_names.proofs.ruleset_names.RulesetNames.tables.Given as goal

-- the tables so far, and room for all
abbrev pub invariant-loop-place : goal.invariant-loop-place
invariant-loop-place l = record {
  named : l.tables.items ≡ map table_tree (take l.place l.tree.tables.items);
  count : vec_len l.tables ≡ l.place;
  room : length l.tree.tables.items ≤ vec_capacity l.tables;
}
