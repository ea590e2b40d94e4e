-- Faults of names.
use Rattle.std.specs.Prelude.{Bool, List, flat_map, not, is_some}
use Rattle.std.specs.List.{list_any}
use Rattle.nft_tree.specs.Tree.{ItemTree, RuleTree, Statement, TableTree, Text}
use Rattle.rule_names.specs.declared.targets.TargetTest.{TargetTest}
use Rattle.rule_names.specs.declared.targets.TargetTest.TheVariants as tests
use Rattle.rule_names.specs.declared.name_faults.NameFault.{NameFault}
use Rattle.rule_names.specs.declared.name_faults.NameFault.TheVariants as faults
use Rattle.rule_names.specs.Names.{chain_named, is_base_chain, is_set_or_map, item_references, item_targets, statement_references, statement_targets}

-- the target of a jump or goto passes the test
abbrev pub passes : TargetTest → TableTree → Text → Bool
passes tests.IsNoChain t name = not (is_some (chain_named t name))
passes tests.IsBaseChain t name = is_base_chain t name

-- no set or map has the name
abbrev pub is_unknown : TableTree → Text → Bool
is_unknown t name = not (is_set_or_map t name)

-- ---- all names of a table

-- the name has the fault
abbrev pub has_fault : NameFault → TableTree → Text → Bool
has_fault (faults.Target test) = passes test
has_fault faults.UnknownSet = is_unknown

-- the names that may have the fault
abbrev pub names_of_statement : NameFault → Statement → List Text
names_of_statement (faults.Target test) = statement_targets
names_of_statement faults.UnknownSet = statement_references

abbrev pub names_of_rule : NameFault → RuleTree → List Text
names_of_rule fault r = flat_map (names_of_statement fault) r.statements

abbrev pub names_of_item : NameFault → ItemTree → List Text
names_of_item (faults.Target test) = item_targets
names_of_item faults.UnknownSet = item_references

abbrev pub table_has_fault : NameFault → TableTree → Bool
table_has_fault fault t = list_any (has_fault fault t) (flat_map (names_of_item fault) t.items)
