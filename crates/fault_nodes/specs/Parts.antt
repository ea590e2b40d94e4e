-- What a ruleset is read by, in text order: its declarations, and behind them its parts, which are its rules,
-- statements and elements. (own)
use Rattle.std.specs.Prelude.{ℕ, ◌+◌, List, length, sum_by}
use Rattle.nft_tree.specs.Tree as tree
use Rattle.nft_tree.specs.Tree.{Statement, RuleTree, ItemTree, TableTree}
use Rattle.rule_check.specs.Limits.{length_if, statement_elements}

-- ---- declarations: tables, and their chains, sets, maps and comments

-- the table, and each of its items
abbrev pub table_declarations : TableTree → ℕ
table_declarations t = 1 + length t.items

abbrev pub declarations : List TableTree → ℕ
declarations tables = sum_by table_declarations tables

-- ---- parts

-- the statement, and each element of its anonymous set or map
abbrev pub statement_parts : Statement → ℕ
statement_parts s = 1 + statement_elements s

-- the rule, and the parts of its statements
abbrev pub rule_parts : RuleTree → ℕ
rule_parts r = 1 + sum_by statement_parts r.statements

-- the parts of a chain's rules, or each element of a set or map
abbrev pub item_parts : ItemTree → ℕ
item_parts (tree.comment text) = 0
item_parts (tree.chain c) = sum_by rule_parts c.rules
item_parts (tree.set s) = length_if s.elements
item_parts (tree.map_item m) = length_if m.elements

abbrev pub table_parts : TableTree → ℕ
table_parts t = sum_by item_parts t.items

abbrev pub ruleset_parts : List TableTree → ℕ
ruleset_parts tables = sum_by table_parts tables
