-- The nodes of a ruleset, how much is read before each, and the node with which a ruleset gets its fault. (own)
use Rattle.std.specs.Prelude.{ℕ, suc, ◌+◌, ◌<◌, List, [], length, slice_get, sum_by, take, Option, Some, None}
use Rattle.nft_tree.specs.Tree as tree
use Rattle.nft_tree.specs.Tree.{Statement, RuleTree, ItemTree, TableTree}
use Rattle.box_file.specs.Box.{PlantTree}
use Rattle.rule_check.specs.Limits.{length_if, statement_elements}
use Rattle.rule_check.specs.WellFormed.{LeastFault}
use Rattle.rule_check.specs.declared.fault.CheckFault.{CheckFault}
use Rattle.fault_nodes.specs.declared.nodes.Node.{Node}
use Rattle.fault_nodes.specs.declared.nodes.Node.TheVariants as nodes
use Rattle.fault_nodes.specs.Parts.{declarations, item_parts, rule_parts, statement_parts, table_declarations}
use Rattle.fault_nodes.specs.Parts.{table_parts}
use Rattle.fault_nodes.specs.ReadParts.{read_up_to}

-- ---- by index, from 0 in text order; what isn't there holds nothing

abbrev pub items_in : Option TableTree → List ItemTree
items_in None = []
items_in (Some t) = t.items

abbrev pub rules_in : Option ItemTree → List RuleTree
rules_in (Some (tree.chain c)) = c.rules
rules_in _ = []

abbrev pub statements_in : Option RuleTree → List Statement
statements_in None = []
statements_in (Some r) = r.statements

-- the number of elements of a set or map
abbrev pub elements_in : Option ItemTree → ℕ
elements_in (Some (tree.set s)) = length_if s.elements
elements_in (Some (tree.map_item m)) = length_if m.elements
elements_in _ = 0

-- the number of elements of a statement's anonymous set or map
abbrev pub anonymous_elements_in : Option Statement → ℕ
anonymous_elements_in None = 0
anonymous_elements_in (Some s) = statement_elements s

abbrev pub items_at : List TableTree → ℕ → List ItemTree
items_at tables table = items_in (slice_get tables table)

abbrev pub item_at : List TableTree → (table item : ℕ) → Option ItemTree
item_at tables table item = slice_get (items_at tables table) item

abbrev pub rules_at : List TableTree → (table item : ℕ) → List RuleTree
rules_at tables table item = rules_in (item_at tables table item)

abbrev pub rule_at : List TableTree → (table item rule : ℕ) → Option RuleTree
rule_at tables table item rule = slice_get (rules_at tables table item) rule

abbrev pub statements_at : List TableTree → (table item rule : ℕ) → List Statement
statements_at tables table item rule = statements_in (rule_at tables table item rule)

abbrev pub statement_at : List TableTree → (table item rule statement : ℕ) → Option Statement
statement_at tables table item rule statement = slice_get (statements_at tables table item rule) statement

-- the ruleset has this node
abbrev pub IsNode : List TableTree → Node → Type 0
IsNode tables (nodes.Table table) = table < length tables
IsNode tables (nodes.Item table item) = item < length (items_at tables table)
IsNode tables (nodes.Rule table item rule) = rule < length (rules_at tables table item)
IsNode tables (nodes.Statement table item rule statement) =
    statement < length (statements_at tables table item rule)
IsNode tables (nodes.Element table item element) = element < elements_in (item_at tables table item)
IsNode tables (nodes.AnonymousElement table item rule statement element) =
    element < anonymous_elements_in (statement_at tables table item rule statement)

-- ---- what is read before a node

-- the parts of the tables before it
abbrev pub before_table : List TableTree → ℕ → ℕ
before_table tables table = sum_by table_parts (take table tables)

-- and those of its table's items before it
abbrev pub before_item : List TableTree → (table item : ℕ) → ℕ
before_item tables table item = before_table tables table + sum_by item_parts (take item (items_at tables table))

-- and those of its chain's rules before it
abbrev pub before_rule : List TableTree → (table item rule : ℕ) → ℕ
before_rule tables table item rule =
    before_item tables table item + sum_by rule_parts (take rule (rules_at tables table item))

-- and its rule, and those of its rule's statements before it
abbrev pub before_statement : List TableTree → (table item rule statement : ℕ) → ℕ
before_statement tables table item rule statement =
    before_rule tables table item rule + 1
    + sum_by statement_parts (take statement (statements_at tables table item rule))

-- How many declarations and parts are read before a node: of a table or an item the declarations before it, of
-- any other node all declarations and the parts before it.
abbrev pub position : List TableTree → Node → ℕ
position tables (nodes.Table table) = sum_by table_declarations (take table tables)
position tables (nodes.Item table item) = sum_by table_declarations (take table tables) + 1 + item
position tables (nodes.Rule table item rule) = declarations tables + before_rule tables table item rule
position tables (nodes.Statement table item rule statement) =
    declarations tables + before_statement tables table item rule statement
position tables (nodes.Element table item element) = declarations tables + before_item tables table item + element
position tables (nodes.AnonymousElement table item rule statement element) =
    declarations tables + before_statement tables table item rule statement + 1 + element

-- ---- the node of a fault

-- With this node the ruleset gets the fault: read up to the node and with it, it has the fault as its least, and
-- read up to the node and without it, it hasn't.
pub record CompletesFault (fault : CheckFault) (node : Node) (tables : List TableTree) (network : PlantTree)
    : Type 0 where
  pub there : IsNode tables node
  pub with_it : LeastFault fault (read_up_to (suc (position tables node)) tables) network
  pub without_it : LeastFault fault (read_up_to (position tables node) tables) network → ⊥
