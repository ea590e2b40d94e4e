use Rattle.std.proofs.Common.{arith}
use Rattle.std.proofs.lemmas.List.{length-map}
use Rattle.nft_tree.specs.TreeViews.{item_tree, table_tree, tables_of}
use Rattle.fault_nodes.specs.Parts.{item_parts, table_parts}
use Rattle.fault_nodes.specs.steps.Spots.{IsSpot}
use Rattle.fault_nodes.proofs.Spots.{read_at, rest_small, spot_rest, spot_within}
use Rattle.fault_nodes.proofs.Places.{item_here, items_before}
use Rattle.fault_nodes.proofs.node_at.part_at.Goals as goal

pub locate-item-requires-clause-small : goal.locate-item-requires-clause-small
locate-item-requires-clause-small c =
    let is : IsSpot table_parts (tables_of c.args.tree.now) c.args.before c.locate-table.result
    = rw c.deref.ensures.value at (c.locate-table.ensures table_parts (λ x n e. e)) in
    rest_small table_parts (tables_of c.args.tree.now) c.args.before c.locate-table.result is _ c.requires.small

pub index-requires-2 : goal.index-requires-2
index-requires-2 c =
    let tables = tables_of c.args.tree.now in
    let place = c.locate-table.result in
    let table = table_tree c.index.result.now in
    let is_table : IsSpot table_parts tables c.args.before place
    = rw c.deref.ensures.value at (c.locate-table.ensures table_parts (λ x n e. e)) in
    let table_found = read_at table_tree c.args.tree.now.tables.items place.index c.index.result.now
    (spot_within table_parts tables c.args.before place is_table c.requires.inside) c.index.ensures in
    let within = spot_rest table_parts tables c.args.before place is_table table table_found in
    let spot = c.locate-item.result in
    let is : IsSpot item_parts table.items place.rest spot
    = rw c.deref-2.ensures.value at (c.locate-item.ensures item_parts (λ x n e. e)) in
    let long = length-map c.index.result.now.items.items item_tree in
    omega (arith, spot_within item_parts table.items place.rest spot is within, long, c.deref-2.ensures)

pub part_of_item-requires-clause-inside : goal.part_of_item-requires-clause-inside
part_of_item-requires-clause-inside c =
    let tables = tables_of c.args.tree.now in
    let place = c.locate-table.result in
    let table = table_tree c.index.result.now in
    let is_table : IsSpot table_parts tables c.args.before place
    = rw c.deref.ensures.value at (c.locate-table.ensures table_parts (λ x n e. e)) in
    let table_found = read_at table_tree c.args.tree.now.tables.items place.index c.index.result.now
    (spot_within table_parts tables c.args.before place is_table c.requires.inside) c.index.ensures in
    let within = spot_rest table_parts tables c.args.before place is_table table table_found in
    let spot = c.locate-item.result in
    let is : IsSpot item_parts table.items place.rest spot
    = rw c.deref-2.ensures.value at (c.locate-item.ensures item_parts (λ x n e. e)) in
    let item = item_tree c.index-2.result.now in
    let found = read_at item_tree c.index.result.now.items.items spot.index c.index-2.result.now
    (spot_within item_parts table.items place.rest spot is within) c.index-2.ensures in
    spot_rest item_parts table.items place.rest spot is item found

pub part_of_item-requires-clause-small : goal.part_of_item-requires-clause-small
part_of_item-requires-clause-small c =
    let tables = tables_of c.args.tree.now in
    let place = c.locate-table.result in
    let table = table_tree c.index.result.now in
    let is_table : IsSpot table_parts tables c.args.before place
    = rw c.deref.ensures.value at (c.locate-table.ensures table_parts (λ x n e. e)) in
    let spot = c.locate-item.result in
    let is : IsSpot item_parts table.items place.rest spot
    = rw c.deref-2.ensures.value at (c.locate-item.ensures item_parts (λ x n e. e)) in
    rest_small item_parts table.items place.rest spot is _
    (rest_small table_parts tables c.args.before place is_table _ c.requires.small)

pub returns-clause-there : goal.returns-clause-there
returns-clause-there c =
    let tables = tables_of c.args.tree.now in
    let place = c.locate-table.result in
    let table = table_tree c.index.result.now in
    let is_table : IsSpot table_parts tables c.args.before place
    = rw c.deref.ensures.value at (c.locate-table.ensures table_parts (λ x n e. e)) in
    let table_found = read_at table_tree c.args.tree.now.tables.items place.index c.index.result.now
    (spot_within table_parts tables c.args.before place is_table c.requires.inside) c.index.ensures in
    let within = spot_rest table_parts tables c.args.before place is_table table table_found in
    let spot = c.locate-item.result in
    let is : IsSpot item_parts table.items place.rest spot
    = rw c.deref-2.ensures.value at (c.locate-item.ensures item_parts (λ x n e. e)) in
    let item = item_tree c.index-2.result.now in
    let found = read_at item_tree c.index.result.now.items.items spot.index c.index-2.result.now
    (spot_within item_parts table.items place.rest spot is within) c.index-2.ensures in
    c.part_of_item.ensures.there tables
    (item_here tables place.index table place.rest spot is table_found item found)

pub returns-clause-position : goal.returns-clause-position
returns-clause-position c =
    let tables = tables_of c.args.tree.now in
    let place = c.locate-table.result in
    let table = table_tree c.index.result.now in
    let is_table : IsSpot table_parts tables c.args.before place
    = rw c.deref.ensures.value at (c.locate-table.ensures table_parts (λ x n e. e)) in
    let table_found = read_at table_tree c.args.tree.now.tables.items place.index c.index.result.now
    (spot_within table_parts tables c.args.before place is_table c.requires.inside) c.index.ensures in
    let within = spot_rest table_parts tables c.args.before place is_table table table_found in
    let spot = c.locate-item.result in
    let is : IsSpot item_parts table.items place.rest spot
    = rw c.deref-2.ensures.value at (c.locate-item.ensures item_parts (λ x n e. e)) in
    let item = item_tree c.index-2.result.now in
    let found = read_at item_tree c.index.result.now.items.items spot.index c.index-2.result.now
    (spot_within item_parts table.items place.rest spot is within) c.index-2.ensures in
    let in_item = c.part_of_item.ensures.position tables
    (item_here tables place.index table place.rest spot is table_found item found) in
    omega (arith, in_item, items_before tables place.index table place.rest spot is table_found, is_table.sum)
