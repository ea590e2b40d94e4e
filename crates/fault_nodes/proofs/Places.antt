-- Positions of nodes, level by level.
use Rattle.std.proofs.Common.{◌≡◌, ℕ, ◌+◌, ◌<◌, List, length, take, slice_get, Some, arith}
use Rattle.std.specs.List.{sum_by}
use Rattle.nft_tree.specs.Tree as tree
use Rattle.nft_tree.specs.Tree.{Statement, RuleTree, ChainTree, ItemTree, TableTree}
use Rattle.fault_nodes.specs.declared.locating.Spot.{Spot}
use Rattle.fault_nodes.specs.Nodes.{items_at, item_at, rules_at, rule_at, statement_at, anonymous_elements_in}
use Rattle.fault_nodes.specs.Nodes.{before_table, before_item, before_rule}
use Rattle.fault_nodes.specs.Parts.{table_declarations, declarations, item_parts, rule_parts}
use Rattle.fault_nodes.specs.Parts.{statement_parts}
use Rattle.fault_nodes.specs.steps.Spots.{IsSpot}
use Rattle.fault_nodes.proofs.Spots.{spot_node}

-- behind the table itself there is an item
pub item_there : (tables : List TableTree) (before : ℕ) (spot : Spot) (item : ℕ)
    → IsSpot table_declarations tables before spot → before < declarations tables → item + 1 ≡ spot.rest
    → item < length (items_at tables spot.index)
item_there tables before spot item is within next =
    let node = spot_node table_declarations tables before spot is within in
    rw node.1 (omega (arith, node.2, next))

-- behind the statement itself there is an element
pub element_there : (tables : List TableTree) (table item rule : ℕ) (r : RuleTree) (before : ℕ) (spot : Spot) (element : ℕ)
    → rule_at tables table item rule ≡ Some r
    → IsSpot statement_parts r.statements before spot → before < sum_by statement_parts r.statements
    → element + 1 ≡ spot.rest
    → element < anonymous_elements_in (statement_at tables table item rule spot.index)
element_there tables table item rule r before spot element here is within next =
    let node = spot_node statement_parts r.statements before spot is within in
    rw (here, node.1) (omega (arith, node.2, next))

-- the rule in which a part of a chain lies
module _ (tables : List TableTree) (table item : ℕ) (c : ChainTree) (before : ℕ) (spot : Spot)
    (is : IsSpot rule_parts c.rules before spot) (here : item_at tables table item ≡ Some (tree.chain c)) where
  pub rule_here : (r : RuleTree) → slice_get c.rules spot.index ≡ Some r → rule_at tables table item spot.index ≡ Some r
  rule_here r found = rw here found

  pub rules_before : before_rule tables table item spot.index + spot.rest ≡ before_item tables table item + before
  rules_before =
      let sum : sum_by rule_parts (take spot.index (rules_at tables table item)) + spot.rest ≡ before = rw here is.sum in
      omega arith

-- the item in which a part of a table lies
module _ (tables : List TableTree) (table : ℕ) (t : TableTree) (before : ℕ) (spot : Spot)
    (is : IsSpot item_parts t.items before spot) (here : slice_get tables table ≡ Some t) where
  pub item_here : (i : ItemTree) → slice_get t.items spot.index ≡ Some i → item_at tables table spot.index ≡ Some i
  item_here i found = rw here found

  pub items_before : before_item tables table spot.index + spot.rest ≡ before_table tables table + before
  items_before =
      let sum : sum_by item_parts (take spot.index (items_at tables table)) + spot.rest ≡ before = rw here is.sum in
      omega arith
