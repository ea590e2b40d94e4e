use Rattle.std.proofs.Common.{arith}
use Rattle.nft_tree.specs.TreeViews.{rule_tree}
use Rattle.fault_nodes.specs.Parts.{statement_parts}
use Rattle.fault_nodes.specs.steps.Spots.{IsSpot}
use Rattle.fault_nodes.proofs.Places.{element_there}
use Rattle.fault_nodes.proofs.node_at.part_of_rule.Goals as goal

pub returns-in-Some-checked_sub-clause-there : goal.returns-in-Some-checked_sub-clause-there
returns-in-Some-checked_sub-clause-there c = λ tables here.
    let rule = rule_tree c.args.node.now in
    let is : IsSpot statement_parts rule.statements c.in-Some.before c.locate-spot.result
    = rw c.deref.ensures.value at (c.locate-spot.ensures statement_parts (λ x n e. e)) in
    element_there tables c.args.place.table c.args.place.item c.args.place.rule rule c.in-Some.before c.locate-spot.result
    c.in-Some-checked_sub.element here is (omega (arith, c.in-Some.ensures, c.requires.inside))
    (omega (arith, c.in-Some-checked_sub.ensures))
