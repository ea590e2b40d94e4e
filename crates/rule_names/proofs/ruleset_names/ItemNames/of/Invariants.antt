use Rattle.rule_names.proofs.Names.{item_tree, map, take}
use Rattle.rule_names.specs.steps.Table.{IsIndexOf}
use Rattle.rule_names.proofs.ruleset_names.ItemNames.of.Given as goal

-- the items so far
abbrev pub invariant-loop-item : goal.invariant-loop-item
invariant-loop-item l = IsIndexOf (map item_tree (take l.item-index l.items)) l.names
