use Rattle.std.proofs.Common.{arith}
use Rattle.fault_nodes.specs.Parts.{table_declarations}
use Rattle.nft_tree.specs.TreeViews.{tables_of}
use Rattle.fault_nodes.specs.steps.Spots.{IsSpot}
use Rattle.fault_nodes.proofs.Places.{item_there}
use Rattle.fault_nodes.proofs.node_at.declaration_at.Goals as goal

pub returns-in-Some-clause-there : goal.returns-in-Some-clause-there
returns-in-Some-clause-there c =
    let is : IsSpot table_declarations (tables_of c.args.tree.now) c.args.before c.locate-spot.result
    = rw c.deref.ensures.value at (c.locate-spot.ensures table_declarations (λ x n e. e)) in
    item_there (tables_of c.args.tree.now) c.args.before c.locate-spot.result c.in-Some.item is c.requires.inside
    (omega (arith, c.in-Some.ensures))
