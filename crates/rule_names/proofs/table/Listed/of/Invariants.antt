use Rattle.rule_names.proofs.Names.{item_tree, map, take}
use Rattle.rule_names.specs.steps.Table.{AreListed}
use Rattle.rule_names.proofs.table.Listed.of.Given as goal

-- the items so far
abbrev pub invariant-loop-item : goal.invariant-loop-item
invariant-loop-item l = AreListed (map item_tree (take l.item-index l.items)) l.listed
