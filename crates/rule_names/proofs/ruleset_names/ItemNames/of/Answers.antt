use Rattle.rule_names.proofs.Names.{[], item_tree, map, subst, take, ◌++◌, ◌∷◌}
use Rattle.std.proofs.lemmas.List.{take_all}
use Rattle.rule_names.specs.steps.Table.{IsIndexOf, IsIndexOrDuplicate}
use Rattle.rule_names.proofs.Additions.{item-duplicate, item-more}
use Rattle.rule_names.proofs.Duplicates.{repeats-none}
use Rattle.rule_names.proofs.ruleset_names.ItemNames.of.Goals as goal

pub loop-item-init : goal.loop-item-init
loop-item-init c = record {
  chains = c.new.ensures;
  sets = c.new-2.ensures;
  maps = c.new-3.ensures;
  chains_apart = repeats-none;
  both_apart = repeats-none;
}

pub returns-then-not-branch : goal.returns-then-not-branch
returns-then-not-branch c =
    item-duplicate c.args.items.now c.loop-item.item-index c.item-item.result c.loop-item-test.true c.item-item.is c.add.new.self
    (subst (IsIndexOrDuplicate (map item_tree (take c.loop-item.item-index c.args.items.now) ++ item_tree c.item-item.result ∷ []) c.add.new.self) c.if-not-branch.true
    (c.in_ok-add.ensures (map item_tree (take c.loop-item.item-index c.args.items.now)) c.loop-item.invariant))

pub loop-item-preserved : goal.loop-item-preserved
loop-item-preserved c =
    item-more c.args.items.now c.loop-item.item-index c.item-item.result c.loop-item-test.true c.item-item.is c.add.new.self
    (subst (IsIndexOrDuplicate (map item_tree (take c.loop-item.item-index c.args.items.now) ++ item_tree c.item-item.result ∷ []) c.add.new.self) c.if-not-branch.false
    (c.in_ok-add.ensures (map item_tree (take c.loop-item.item-index c.args.items.now)) c.loop-item.invariant))

pub returns : goal.returns
returns c =
    subst (λ xs. IsIndexOf (map item_tree xs) c.loop-item.names) (take_all c.loop-item.item-index c.args.items.now c.loop-item-test.false)
    c.loop-item.invariant
